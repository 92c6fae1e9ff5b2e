-- The laws of `specs/Answers.antt`. Assumes nothing.
use mathlib.Core.Path.{◌≡◌}
use mathlib.Core.List.{List}
use Prim.Native.Nat.{ℕ, ◌*◌, ◌≤◌, ◌<◌, ◌^◌}
use native.Mathlib.Omega.{arith}
use lib.ListN.{length}
use Rattle.table.specs.Rows.{places}
use Rattle.ordering.specs.Answers.{when_done}
use Rattle.refusal.specs.Answers.{Answer, value_of}
use Rattle.std.specs.Prelude.{Ok, Err}
use Rattle.refusal.specs.declared.Refusal.{Refusal}

-- what `long_code` asks, of an answer that lists no more than a table has places
pub count_fits : (a : Answer) (t : List ℕ) → value_of a ≤ places 1062 t → length t < 256 ^ 8 → value_of a < 256 ^ 7
unfolding places
count_fits a t h l = omega arith

-- ---- what a lent slice holds then
module _ (a : Answer) (new old : List ℕ) where
  pub when-done : (n : ℕ) → a ≡ Ok n → when_done a new old ≡ new
  unfolding when_done
  when-done n e = rw (e, when_done)

  pub when_refused : (r : Refusal) → a ≡ Err r → when_done a new old ≡ old
  unfolding when_done
  when_refused r e = rw (e, when_done)
