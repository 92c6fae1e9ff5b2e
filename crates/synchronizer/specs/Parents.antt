-- Parents: document 01, 'synchronizer'. A certificate is known by its record: genesis' records, and the rows of the known table. Assumes nothing.
use Rattle.std.specs.Prelude.{Bool, not, List, [], ℕ, eqb, length, get_or}
use Rattle.wire.specs.Items.{first_of, has_part, keeps, all_of}
use Rattle.std.specs.Prelude.{Some, None}

-- the first record with this digest, or what is given
unfoldable pub record_in : List (List ℕ) → List ℕ → List ℕ → List ℕ
record_in rs digest other = elim (first_of (has_part 36 digest) rs 0) [ Some i ↦ get_or rs i [] | None ↦ other ]

-- a parent digest is looked up first in genesis, then in the known table; the answer is the record itself, or nothing
unfoldable pub parent_of : List (List ℕ) → List (List ℕ) → List ℕ → List ℕ
parent_of genesis known digest = record_in genesis digest (record_in known digest [])

unfoldable pub lacks : List (List ℕ) → List (List ℕ) → List ℕ → Bool
lacks genesis known digest = eqb (length (parent_of genesis known digest)) 0

-- the missing digests, in parent order
unfoldable pub missing_parents : List (List ℕ) → List (List ℕ) → List (List ℕ) → List (List ℕ)
missing_parents genesis known parents = keeps (lacks genesis known) parents

unfoldable pub has : List (List ℕ) → List (List ℕ) → List ℕ → Bool
has genesis known digest = not (lacks genesis known digest)

-- a certificate is delivered when no parent is missing
unfoldable pub delivered : List (List ℕ) → List (List ℕ) → List (List ℕ) → Bool
delivered genesis known parents = all_of (has genesis known) parents
