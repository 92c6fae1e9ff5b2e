-- The ordering's start: document 01, consensus, first sentence; 10 BadCommittee, then 11 BadShape. A refusal changes nothing. Assumes
-- nothing.
use Rattle.std.specs.Prelude.{◌≡◌, Bool, true, false, ◌&&◌, List, map, ℕ, ◌+◌, ◌-◌, ◌*◌, ◌%◌, eqb, ltb, leb, length, drop, replicate}
use Rattle.table.specs.Rows.{places, packed}
use Rattle.config.specs.Members.{members_of}
use Rattle.config.specs.Committee.{valid_setup}
use Rattle.genesis.specs.Genesis.{record_digest, records_of, valid_genesis}
use Rattle.consensus.specs.Table.{genesis, fresh}
use Rattle.held.specs.Rows.{row_of, state_of, held_shape}
use Rattle.ordering.specs.Answers.{when_done}
use Rattle.refusal.specs.Answers.{Answer}
use Rattle.std.specs.Prelude.{Ok, Err}
use Rattle.refusal.specs.declared.Refusal.TheVariants.{BadCommittee, BadShape}

-- ---- what a start takes

-- no byte over, and more places than the n members; what stands in the table is not looked at
unfoldable pub room_for : ℕ → List ℕ → Bool
room_for n t = leb 8 (length t) && eqb ((length t - 8) % 1062) 0 && ltb n (places 1062 t)

-- genesis is the members', the state has 4 bytes for each, and the table has room for one row of each and one more
unfoldable pub valid_start : List ℕ → List ℕ → List ℕ → List ℕ → Bool
valid_start ms g s t = valid_genesis ms g && eqb (length s) (length (members_of ms) * 4) && room_for (length (members_of ms)) t

unfoldable pub start_answer : List ℕ → List ℕ → List ℕ → List ℕ → Answer
start_answer setup g s t =
    elim (valid_setup setup) [
      | false ↦ Err BadCommittee
      | true ↦ elim (valid_start (drop 8 setup) g s t) [ true ↦ Ok 0 | false ↦ Err BadShape ]
    ]

-- ---- what it leaves

-- the digest of each genesis record, in the members' order
unfoldable pub digests_of : List ℕ → List (List ℕ)
digests_of g = map record_digest (records_of g)

-- a row for each genesis certificate
unfoldable pub genesis_rows : List (List ℕ) → List (List ℕ)
genesis_rows ds = map row_of (genesis 0 ds)

-- a table of this size that holds genesis: the count, a row for each digest, and zeros in every byte past them
unfoldable pub fresh_table : ℕ → List (List ℕ) → List ℕ
fresh_table size ds = packed (genesis_rows ds) (replicate (size - (8 + length ds * 1062)) 0)

-- every last committed round is 0
unfoldable pub fresh_state : ℕ → List ℕ
fresh_state n = replicate (n * 4) 0

pub record Started (setup g s t : List ℕ) (r : Answer) (s' t' : List ℕ) : Type 0 where
  pub answer : r ≡ start_answer setup g s t
  pub state : s' ≡ when_done (start_answer setup g s t) (fresh_state (length (members_of (drop 8 setup)))) s
  pub table : t' ≡ when_done (start_answer setup g s t) (fresh_table (length t) (digests_of g)) t

-- WHAT A START THAT IS ANSWERED LEAVES, read as the ordering's definitions have it: their fresh state
pub record Fresh (setup g t s' t' : List ℕ) : Type 0 where
  pub state : state_of s' t' ≡ fresh (digests_of g)
  pub shape : held_shape (length (members_of (drop 8 setup))) t' ≡ true
  pub size : length t' ≡ length t
  pub lasts : length s' ≡ length (members_of (drop 8 setup)) * 4
