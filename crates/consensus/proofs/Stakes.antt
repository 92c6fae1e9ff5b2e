-- The stakes of a member list, as the ordering is agreed on them: their total and each member's are the committee's. Assumes nothing.
use mathlib.Core.List.{List, [], ◌∷◌, map}
use mathlib.Core.Path.{◌≡◌, refl, ap}
use Prim.Native.Nat.{ℕ, zero, suc, ◌+◌, ◌<◌}
use native.Mathlib.Nat.{le_of_suc-le-suc, not-suc-le-zero}
use lib.ListN.{length, get_or, length-map}
use Rattle.wire.specs.Items.{sum_of}
use Rattle.config.specs.Members.{stake_in}
use Rattle.config.specs.Committee.{total}
use Rattle.consensus.specs.Leaders.{total_stake}

abbrev pub stakes_of : List (List ℕ) → List ℕ
stakes_of ms = map stake_in ms

pub stakes-total : (ms : List (List ℕ)) → total_stake (stakes_of ms) ≡ total ms
unfolding total_stake total sum_of
stakes-total [] = refl
stakes-total (m ∷ ms) = ap (λ (n : ℕ). stake_in m + n) (stakes-total ms)

pub stakes-at : (ms : List (List ℕ)) (i : ℕ) → i < length ms → get_or (stakes_of ms) i 0 ≡ stake_in (get_or ms i [])
stakes-at [] i h = absurd (not-suc-le-zero h)
stakes-at (m ∷ ms) zero h = refl
stakes-at (m ∷ ms) (suc i) h = stakes-at ms i (le_of_suc-le-suc h)

pub stakes-many : (ms : List (List ℕ)) → length (stakes_of ms) ≡ length ms
stakes-many ms = length-map ms stake_in
