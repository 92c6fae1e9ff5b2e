-- The definitions run: each answer's number, and starts at the edges of the domain. The laws' files bring this one, so that a definition
-- is held to its cases first. Assumes nothing.
use mathlib.Core.Path.{◌≡◌, refl}
use mathlib.Core.Bool.{true}
use mathlib.Core.List.{List, [], ◌∷◌, ◌++◌}
use Prim.Native.Nat.{ℕ}
use lib.ListN.{replicate}
use Rattle.wire.specs.Bytes.{part, alike, less, word, bytes}
use Rattle.wire.specs.Items.{chunks, items, flat, first_of, has_part, key_of, keys, ascends, ascends_from, sum_of, all_of}
use Rattle.table.specs.Rows.{places, packed}
use Rattle.config.specs.Members.{members_of, stake_in, worker_count, lawful}
use Rattle.config.specs.Committee.{total, depth_of, valid_members, valid_setup}
use Rattle.config.specs.Sample.{id_bytes, member_with, members_with}
use Rattle.genesis.specs.Genesis.{record_round, record_origin, record_digest, records_of, belongs, paired, distinct, valid_genesis}
use Rattle.consensus.specs.Table.{genesis}
use Rattle.held.specs.Rows.{head_of, row_of}
use Rattle.ordering.specs.Answers.{when_done}
use Rattle.ordering.specs.Start.{room_for, valid_start, start_answer, digests_of, genesis_rows, fresh_table}
use Rattle.refusal.specs.Answers.{Answer, code_of}
use Rattle.std.specs.Prelude.{Ok, Err}
use Rattle.refusal.specs.declared.Refusal.TheVariants.{BadCommittee, BadShape, UnknownAuthority, NoRoom, HistoryMissing, DigestClash}

pub record Codes : Type 0 where
  pub none-listed : code_of (Ok 0) ≡ 0
  pub three-listed : code_of (Ok 3) ≡ 768
  pub committee : code_of (Err BadCommittee) ≡ 10
  pub shape : code_of (Err BadShape) ≡ 11
  pub authority : code_of (Err UnknownAuthority) ≡ 2
  pub room : code_of (Err NoRoom) ≡ 12
  pub history : code_of (Err HistoryMissing) ≡ 13
  pub clash : code_of (Err DigestClash) ≡ 14

pub codes : Codes
unfolding code_of
codes = record { none-listed = refl; three-listed = refl; committee = refl; shape = refl; authority = refl; room = refl; history = refl; clash = refl }

-- two members with the keys 1 and 2, a depth, and their genesis; a record's key and digest begin with these bytes
abbrev setup : ℕ → List ℕ
setup depth = bytes 8 depth ++ members_with 1 (5 ∷ 6 ∷ [])

abbrev of : ℕ → ℕ → ℕ → List ℕ
of round key digest = bytes 4 round ++ ((key ∷ replicate 31 0) ++ (digest ∷ replicate 31 0))

abbrev two : List ℕ
two = of 0 1 8 ++ of 0 2 9

-- whether a start with a state and a table of so many bytes is answered
abbrev start : List ℕ → List ℕ → ℕ → ℕ → Answer
start setup g state table = start_answer setup g (replicate state 7) (replicate table 7)

pub record Starts : Type 0 where
  pub three-places : start (setup 50) two 8 3194 ≡ Ok 0
  pub deepest : start (setup 4294967295) two 8 3194 ≡ Ok 0
  pub two-places : start (setup 50) two 8 2132 ≡ Err BadShape
  pub byte-over : start (setup 50) two 8 3195 ≡ Err BadShape
  pub byte-less : start (setup 50) two 8 3193 ≡ Err BadShape
  pub no-count : start (setup 50) two 8 7 ≡ Err BadShape
  pub state-less : start (setup 50) two 7 3194 ≡ Err BadShape
  pub state-over : start (setup 50) two 9 3194 ≡ Err BadShape
  pub one-record : start (setup 50) (of 0 1 8) 8 3194 ≡ Err BadShape
  pub turned : start (setup 50) (of 0 2 9 ++ of 0 1 8) 8 3194 ≡ Err BadShape
  pub digests-equal : start (setup 50) (of 0 1 8 ++ of 0 2 8) 8 3194 ≡ Err BadShape
  pub too-deep : start (setup 4294967296) two 8 3194 ≡ Err BadCommittee
  pub all-wrong : start (bytes 8 50) [] 0 0 ≡ Err BadCommittee

pub starts : Starts
unfolding start_answer valid_start room_for places valid_setup depth_of valid_members total members_of stake_in worker_count lawful valid_genesis records_of record_round record_origin record_digest belongs paired distinct first_of has_part key_of keys ascends ascends_from sum_of all_of chunks items part alike less word bytes id_bytes member_with members_with
starts =
    record {
      three-places = refl;
      deepest = refl;
      two-places = refl;
      byte-over = refl;
      byte-less = refl;
      no-count = refl;
      state-less = refl;
      state-over = refl;
      one-record = refl;
      turned = refl;
      digests-equal = refl;
      too-deep = refl;
      all-wrong = refl;
    }

-- the row of a member's genesis certificate: round 0, the member's place, no parents, the digest, zeros
abbrev row : ℕ → ℕ → List ℕ
row place digest = replicate 4 0 ++ (place ∷ 0 ∷ digest ∷ replicate 1055 0)

pub record Tables : Type 0 where
  pub digests : digests_of two ≡ (8 ∷ replicate 31 0) ∷ (9 ∷ replicate 31 0) ∷ []
  pub bytes-are : alike (fresh_table 3194 (digests_of two)) ((2 ∷ replicate 7 0) ++ (row 0 8 ++ (row 1 9 ++ replicate 1062 0))) ≡ true
  pub refused : when_done (Err BadShape) (1 ∷ []) (2 ∷ []) ≡ 2 ∷ []

pub tables : Tables
unfolding digests_of records_of record_digest fresh_table genesis_rows packed genesis row_of head_of flat chunks items part alike bytes when_done
tables = record { digests = refl; bytes-are = refl; refused = refl }
