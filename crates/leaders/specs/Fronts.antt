-- The front of a link test as marks: one byte for each place of the table, not 0 where the place is marked. Assumes nothing.
use Rattle.std.specs.Prelude.{ℕ, ◌-◌, ◌<◌, ◌≡◌, Bool, true, false, not, ◌&&◌, List, [], ◌∷◌, eqb, length, set}
use Rattle.consensus.specs.Table.{Cert, cert_at, of_round}
use Rattle.consensus.specs.Leaders.{followed, named}

-- marked, and of a round
unfoldable pub is_front : ℕ → ℕ → Cert → Bool
is_front r m c = not (eqb m 0) && eqb c.round r

-- the certificates of a round at marked places, in the table's order
unfoldable pub front_of : ℕ → List ℕ → List Cert → List Cert
front_of r [] cs = []
front_of r (m ∷ ms) [] = []
front_of r (m ∷ ms) (c ∷ cs) = elim (is_front r m c) [ true ↦ c ∷ front_of r ms cs | false ↦ front_of r ms cs ]

-- no place below a round is marked
unfoldable pub Unmarked : ℕ → List ℕ → List Cert → Type 0
Unmarked upper marks held = (r : ℕ) → r < upper → front_of r marks held ≡ []

-- place i is marked too, where its certificate is of the round below the front's and the front names it as parent
unfoldable pub marked_at : List Cert → ℕ → ℕ → List ℕ → List ℕ
marked_at held upper i marks =
    elim (eqb (cert_at held i).round (upper - 1) && named (cert_at held i).digest (front_of upper marks held)) [ true ↦ set marks i 1 | false ↦ marks ]

-- one round lower: the front is there what the front above names, and nothing below it is marked
pub record Follows (held : List Cert) (upper : ℕ) (marks after : List ℕ) : Type 0 where
  pub front : front_of (upper - 1) after held ≡ followed (front_of upper marks held) (of_round (upper - 1) held)
  pub none : Unmarked (upper - 1) after held
  pub size : length after ≡ length marks
