-- What each question is answered, and what it leaves in the lent slices, for every input: document 01, 10, 11, then 12. Assumes nothing.
use Rattle.std.specs.Prelude.{◌≡◌, Bool, true, false, ◌&&◌, not, List, ℕ, ◌%◌, eqb, length}
use Rattle.wire.specs.Bytes.{splice}
use Rattle.wire.specs.Items.{flat}
use Rattle.table.specs.Rows.{shaped, rows_of, appended}
use Rattle.config.specs.Committee.{valid_members}
use Rattle.genesis.specs.Genesis.{records_of, record_round, valid_genesis}
use Rattle.messages.specs.Header.{header_shape, parents_of}
use Rattle.synchronizer.specs.Parents.{missing_parents, delivered}
use Rattle.synchronizer.specs.Payload.{pairs_of, missing_payload}
use Rattle.synchronizer.specs.Known.{learning}
use Rattle.refusal.specs.Answers.{Answer}
use Rattle.std.specs.Prelude.{Result, Ok, Err}
use Rattle.refusal.specs.declared.Refusal.{Refusal}
use Rattle.refusal.specs.declared.Refusal.TheVariants.{BadCommittee, BadShape}

-- 11 where a test fails, else what is answered
unfoldable pub shaped_as : Bool → Answer → Answer
shaped_as b a = elim b [ true ↦ a | false ↦ Err BadShape ]

-- what is picked stands in the buffer where the test says yes; else the buffer stays
unfoldable pub out_as : Bool → List (List ℕ) → List ℕ → List ℕ
out_as b picks out = elim b [ true ↦ splice out 0 (flat picks) | false ↦ out ]

-- ---- parents
-- genesis is the members', the known table is in shape, and so is the header
unfoldable pub lookable : List ℕ → List ℕ → List ℕ → List ℕ → Bool
lookable ms g k h = valid_genesis ms g && shaped 68 k && header_shape h

-- what is refused where they are not: 10 before 11
unfoldable pub unlookable : List ℕ → Refusal
unlookable ms = elim (valid_members ms) [ true ↦ BadShape | false ↦ BadCommittee ]

-- looked up with a table t and a header b, or refused
pub record Looked (ms g k h t b : List ℕ) : Type 0 where
  pub committee : valid_members ms ≡ true
  pub look : lookable ms g k h ≡ true
  pub table : t ≡ k
  pub header : b ≡ h

pub record Unlooked (ms g k h : List ℕ) (e : Refusal) : Type 0 where
  pub no : valid_members ms && lookable ms g k h ≡ false
  pub refusal : e ≡ unlookable ms

unfoldable pub missing_of : List ℕ → List ℕ → List ℕ → List (List ℕ)
missing_of g k h = missing_parents (records_of g) (rows_of 68 k) (parents_of h)

unfoldable pub parents_answer : List ℕ → List ℕ → List ℕ → List ℕ → List ℕ → Answer
parents_answer ms g k h out =
    elim (valid_members ms) [
      | true ↦ shaped_as (lookable ms g k h && eqb (length out) 1024) (Ok (length (missing_of g k h)))
      | false ↦ Err BadCommittee
    ]

pub record ParentsAnswer (ms g k h out : List ℕ) (r : Answer) (out' : List ℕ) : Type 0 where
  pub answer : r ≡ parents_answer ms g k h out
  pub buffer : out' ≡ out_as (valid_members ms && (lookable ms g k h && eqb (length out) 1024)) (missing_of g k h) out

-- 1 where no parent is missing, else 0
unfoldable pub deliver_answer : List ℕ → List ℕ → List ℕ → List ℕ → Answer
deliver_answer ms g k h =
    elim (valid_members ms) [
      | true ↦ shaped_as (lookable ms g k h) (elim (delivered (records_of g) (rows_of 68 k) (parents_of h)) [ true ↦ Ok 1 | false ↦ Ok 0 ])
      | false ↦ Err BadCommittee
    ]

-- ---- payload
unfoldable pub payload_shape : List ℕ → List ℕ → List ℕ → List ℕ → Bool
payload_shape own pairs h out = eqb (length own) 32 && eqb (length pairs % 36) 0 && header_shape h && eqb (length out) 2304

unfoldable pub payload_answer : List ℕ → List ℕ → List ℕ → List ℕ → Answer
payload_answer own pairs h out = shaped_as (payload_shape own pairs h out) (Ok (length (missing_payload own (pairs_of pairs) h)))

pub record PayloadAnswer (own pairs h out : List ℕ) (r : Answer) (out' : List ℕ) : Type 0 where
  pub answer : r ≡ payload_answer own pairs h out
  pub buffer : out' ≡ out_as (payload_shape own pairs h out) (missing_payload own (pairs_of pairs) h) out

-- ---- the known table: a record of a round of at least 1
unfoldable pub learnable : List ℕ → List ℕ → Bool
learnable k new = shaped 68 k && eqb (length new) 68 && not (eqb (record_round new) 0)

-- 0 where the digest is known, 1 where it is not
abbrev pub learnt : Result Bool Refusal → Answer
learnt (Ok true) = Ok 0
learnt (Ok false) = Ok 1
learnt (Err e) = Err e

unfoldable pub learn_answer : List ℕ → List ℕ → Answer
learn_answer k new = shaped_as (learnable k new) (learnt (learning k new))

-- a new record goes at the end
unfoldable pub learnt_table : List ℕ → List ℕ → List ℕ
learnt_table k new =
    elim (learnable k new) [
      | true ↦ elim (learning k new) [ Ok known ↦ elim known [ true ↦ k | false ↦ appended 68 k new ] | Err e ↦ k ]
      | false ↦ k
    ]

pub record LearnAnswer (k new : List ℕ) (r : Answer) (k' : List ℕ) : Type 0 where
  pub answer : r ≡ learn_answer k new
  pub table : k' ≡ learnt_table k new
