-- The leaders of a commit rise, and stay held while those before them are served. Assumes nothing.
use mathlib.Core.List.{List, [], ◌∷◌}
use Prim.Native.Nat.{◌<◌, ◌≤◌, ℕ}
use native.Mathlib.Omega.{arith}
use Rattle.consensus.specs.Among.{In}
use Rattle.consensus.specs.Listing.{list_all}
use Rattle.consensus.specs.Table.{Cert, State}
use Rattle.consensus.proofs.Listing.{Within}

-- the leaders: held, and each higher than b and than those before it
pub data Climb (held : List Cert) : ℕ → List Cert → Type 0 where
  level : {b : ℕ} → Climb held b []
  step-up : {b : ℕ} {cs : List Cert} (c : Cert) → In c held → b < c.round → Climb held c.round cs → Climb held b (c ∷ cs)

module _ (depth : ℕ) where
  pub climb-stays : (w : List Cert) (s : State) (b : ℕ) (cs : List Cert) → Within depth w s b → (b' : ℕ) → b ≤ b' → Climb s.held b' cs
      → Climb (list_all depth w s).held b' cs
  climb-stays w s b [] n b' le level = level
  climb-stays w s b (c ∷ cs) n b' le (step-up _ h l r) = step-up c (n.above c (omega arith) h) l (climb-stays w s b cs n c.round (omega arith) r)
