-- The rounds in which earlier leaders are looked for: document 01's, a later edition's, and what any choice must be. Assumes nothing.
use Rattle.std.specs.Prelude.{true, false, List, [], ◌∷◌, ℕ, zero, suc, ◌+◌, ◌-◌, ◌<◌, leb}
use Rattle.consensus.specs.Among.{In}

-- r, r - 2 and so on, not below low; n bounds the turns
unfoldable pub every_second : ℕ → ℕ → ℕ → List ℕ
every_second zero r low = []
every_second (suc n) r low = elim (leb low r) [ true ↦ r ∷ every_second n (r - 2) low | false ↦ [] ]

-- edition 1, the Rust's: rounds L-1, L-3 and so on, not below C + 2
unfoldable pub edition1 : ℕ → ℕ → List ℕ
unfolding every_second
edition1 l c = every_second l (l - 1) (c + 2)

-- edition 2, on even rounds: L-2, L-4 and so on, not below C + 2
unfoldable pub edition2 : ℕ → ℕ → List ℕ
unfolding every_second
edition2 l c = every_second l (l - 2) (c + 2)

abbrev pub Descending : List ℕ → Type 0
Descending [] = Unit {0}
Descending (x ∷ xs) = ((y : ℕ) → In y xs → y < x) × Descending xs

-- any falling choice below L and above C
pub record Falling (candidates : ℕ → ℕ → List ℕ) : Type 0 where
  pub below : (l c r : ℕ) → In r (candidates l c) → r < l
  pub above : (l c r : ℕ) → In r (candidates l c) → c < r
  pub falls : (l c : ℕ) → Descending (candidates l c)
