-- The same as the code keeps it: the weight, and the place of the first key since quorum was last reached. That these say what
-- `specs/Weight.antt` says is proved in `proofs/Weights.antt`. Assumes nothing.
use Rattle.std.specs.Prelude.{ℕ, suc, ◌+◌, true, false, List, [], ◌∷◌}
use Rattle.aggregators.specs.Weight.{enough, digest_of}
use Rattle.aggregators.specs.declared.tally.Tally.{Tally}

abbrev pub fresh : Tally
fresh = record { weight = 0; from = 0 }

-- a stake more; next is the place behind it
unfoldable pub counted : ℕ → ℕ → ℕ → Tally → Tally
counted q s next t =
    elim (enough q t.weight s) [ true ↦ record { weight = 0; from = next } | false ↦ record { weight = t.weight + s; from = t.from } ]

-- all of the keys, of which the first has the place i
unfoldable pub tally_after : ℕ → (List ℕ → ℕ) → List (List ℕ) → ℕ → Tally → Tally
tally_after q stake [] i t = t
tally_after q stake (k ∷ ks) i t = tally_after q stake ks (suc i) (counted q (stake k) (suc i) t)

-- the digests of pairs
unfoldable pub digests : List (List ℕ) → List (List ℕ)
digests [] = []
digests (p ∷ ps) = digest_of p ∷ digests ps
