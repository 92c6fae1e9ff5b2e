-- The commit table and the ordering's state: document 01, consensus, first two sentences. A certificate is its origin's place in the
-- committee, its round, its digest, and its parents' digests, ascending. A digest is a string of bytes. Assumes nothing.
use Rattle.std.specs.Prelude.{Bool, true, false, not, ◌&&◌, List, [], ◌∷◌, ℕ, suc, max, eqb, length, get_or, replicate}
use Rattle.wire.specs.Bytes.{alike}

pub record Cert : Type 0 where
  pub origin : ℕ
  pub round : ℕ
  pub digest : List ℕ
  pub parents : List (List ℕ)

-- each member's last committed round, and what is held, in the order in which it came
pub record State : Type 0 where
  pub last : List ℕ
  pub held : List Cert

-- C: the highest of all last committed rounds
unfoldable pub highest : List ℕ → ℕ
highest [] = 0
highest (x ∷ xs) = max x (highest xs)

-- ---- at the start: genesis held at round 0, one digest per member, no parents; every last committed round 0

unfoldable pub genesis : ℕ → List (List ℕ) → List Cert
genesis o [] = []
genesis o (d ∷ ds) = record { origin = o; round = 0; digest = d; parents = [] } ∷ genesis (suc o) ds

unfoldable pub fresh : List (List ℕ) → State
unfolding genesis
fresh ds = record { last = replicate (length ds) 0; held = genesis 0 ds }

-- ---- a certificate is put in the table

-- the same origin and round
unfoldable pub same_pair : Cert → Cert → Bool
same_pair c x = eqb c.origin x.origin && eqb c.round x.round

unfoldable pub holds_pair : Cert → List Cert → Bool
unfolding same_pair
holds_pair x [] = false
holds_pair x (c ∷ cs) = elim (same_pair c x) [ true ↦ true | false ↦ holds_pair x cs ]

-- same origin and round overwrites, in its place; another goes at the end
unfoldable pub insert : Cert → List Cert → List Cert
unfolding same_pair
insert x [] = x ∷ []
insert x (c ∷ cs) = elim (same_pair c x) [ true ↦ x ∷ cs | false ↦ c ∷ insert x cs ]

-- 14: the table holds this digest under another origin or round
unfoldable pub clash : Cert → List Cert → Bool
unfolding same_pair
clash x [] = false
clash x (c ∷ cs) = elim (alike c.digest x.digest && not (same_pair c x)) [ true ↦ true | false ↦ clash x cs ]

-- ---- looking into the table

-- the held ones of a round, in the table's order
unfoldable pub of_round : ℕ → List Cert → List Cert
of_round r [] = []
of_round r (c ∷ cs) = elim (eqb c.round r) [ true ↦ c ∷ of_round r cs | false ↦ of_round r cs ]

abbrev pub is_empty : List Cert → Bool
is_empty [] = true
is_empty (c ∷ cs) = false

abbrev pub none : Cert
none = record { origin = 0; round = 0; digest = []; parents = [] }

-- what a place holds
unfoldable pub cert_at : List Cert → ℕ → Cert
cert_at cs i = get_or cs i none

-- the first place with this round and digest; as many as are held, where there is none
unfoldable pub find : ℕ → List ℕ → List Cert → ℕ
find r d [] = 0
find r d (c ∷ cs) = elim (eqb c.round r && alike c.digest d) [ true ↦ 0 | false ↦ suc (find r d cs) ]

-- the first place with this origin and round; as many as are held, where there is none
unfoldable pub pair_place : ℕ → ℕ → List Cert → ℕ
pair_place o r [] = 0
pair_place o r (c ∷ cs) = elim (eqb c.origin o && eqb c.round r) [ true ↦ 0 | false ↦ suc (pair_place o r cs) ]
