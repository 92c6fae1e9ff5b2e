-- What is listed under one leader, as the code leaves it: places of the table, one behind the other in a room. Assumes nothing.
use Rattle.std.specs.Prelude.{ℕ, ◌<◌, ◌≤◌, ◌≡◌, List, map, length, get_or, take}
use Rattle.table.specs.Rows.{count_of}
use Rattle.room.specs.Numbers.{numbers_of}
use Rattle.consensus.specs.Table.{cert_at, highest}
use Rattle.consensus.specs.Walk.{walk_from, drop_deep, by_round}
use Rattle.held.specs.Rows.{held_of, lasts_of, state_of}

-- st and t are the state and the table; p, f and o the pile, the marks and the list, before and after; r places are listed
pub record Ordered (st t : List ℕ) (depth leader r : ℕ) (p p' f f' o o' : List ℕ) : Type 0 where
  -- they hold the definition's list: walked from the leader, the deep dropped, sorted by round
  pub certs : map (cert_at (held_of t)) (take r (numbers_of o')) ≡ by_round (drop_deep depth (highest (lasts_of st)) (map (cert_at (held_of t)) (walk_from (state_of st t) leader)))
  -- each is a place in use
  pub low : (k : ℕ) → k < r → get_or (numbers_of o') k 0 < count_of t
  pub few : r ≤ count_of t
  -- nothing grows or shrinks
  pub pile : length p' ≡ length p
  pub marks : length f' ≡ length f
  pub out : length o' ≡ length o
