-- Genesis: document 01, 'one digest per member, all different, round 0, no parents'. A record stands for a certificate, in genesis and in
-- the known table alike: round 4, origin key 32, digest 32. Assumes nothing.
use Rattle.std.specs.Prelude.{ℕ, ◌*◌, ◌/◌, Bool, true, false, ◌&&◌, List, [], ◌∷◌, length, eqb}
use Rattle.wire.specs.Bytes.{part, word, alike}
use Rattle.wire.specs.Items.{items, first_of, has_part, key_of}
use Rattle.std.specs.Prelude.{Some, None}
use Rattle.config.specs.Members.{members_of}

unfoldable pub record_round : List ℕ → ℕ
record_round r = word (part r 0 4)

unfoldable pub record_origin : List ℕ → List ℕ
record_origin r = part r 4 32

unfoldable pub record_digest : List ℕ → List ℕ
record_digest r = part r 36 32

-- all records, in order
unfoldable pub records_of : List ℕ → List (List ℕ)
records_of g = items 68 g 0 (length g / 68)

-- a record of a member: round 0 and its key
unfoldable pub belongs : List ℕ → List ℕ → Bool
belongs member r = eqb (record_round r) 0 && alike (record_origin r) (key_of member)

-- one record per member, in order
unfoldable pub paired : List (List ℕ) → List (List ℕ) → Bool
paired [] [] = true
paired [] (r ∷ rs) = false
paired (m ∷ ms) [] = false
paired (m ∷ ms) (r ∷ rs) = elim (belongs m r) [ true ↦ paired ms rs | false ↦ false ]

-- the digests are all different: none of the later records has that of the first, and so on
unfoldable pub distinct : List (List ℕ) → Bool
distinct [] = true
distinct (r ∷ rs) = elim (first_of (has_part 36 (record_digest r)) rs 0) [ Some i ↦ false | None ↦ distinct rs ]

unfoldable pub valid_genesis : List ℕ → List ℕ → Bool
valid_genesis ms g = eqb (length g) (length (members_of ms) * 68) && paired (members_of ms) (records_of g) && distinct (records_of g)
