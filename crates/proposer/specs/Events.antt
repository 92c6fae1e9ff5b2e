-- What each event of the proposer is answered, and what it leaves in state and header, for every input: document 01, 'proposer'; 11 BadShape, then 12
-- NoRoom. A refusal changes nothing. Assumes nothing.
use Rattle.std.specs.Prelude.{◌≡◌, ℕ, ◌/◌, ◌%◌, Bool, true, false, ◌&&◌, List, length, eqb, ltb, leb}
use Rattle.proposer.specs.State.{round_in, waiting_count, valid_state, due_header, digests_of, advanced, added, emptied}
use Rattle.proposer.specs.Header.{header_made}
use Rattle.refusal.specs.Answers.{Answer}
use Rattle.std.specs.Prelude.{Ok, Err}
use Rattle.refusal.specs.declared.Refusal.TheVariants.{BadShape, NoRoom}

-- an answer, with what state and header hold then
pub record After : Type 0 where
  pub answer : Answer
  pub state : List ℕ
  pub header : List ℕ

-- what a function gives back and leaves
pub record Left (a : After) (r : Answer) (s h : List ℕ) : Type 0 where
  pub answer : r ≡ a.answer
  pub state : s ≡ a.state
  pub header : h ≡ a.header

-- nothing changes
abbrev pub kept : Answer → List ℕ → List ℕ → After
kept a s h = record { answer = a; state = s; header = h }

-- at the start and after each event, dropped ones too: a header is made if one is due; then parents, digests and size are emptied
unfoldable pub settled : ℕ → ℕ → List ℕ → List ℕ → After
settled size timer s h =
    elim (due_header size timer s) [
      | true ↦ record { answer = Ok 1; state = emptied s; header = header_made s }
      | false ↦ kept (Ok 0) s h
    ]

-- parents of round p: dropped if p is below the current round, else the round becomes p + 1 and the parents are replaced
unfoldable pub received : ℕ → List ℕ → List ℕ → List ℕ
received p parents s = elim (ltb p (round_in s)) [ true ↦ s | false ↦ advanced s p (digests_of parents) ]

-- p at most 4,294,967,294 and 0 to 32 parents of 32 bytes, in any order
unfoldable pub valid_parents : ℕ → List ℕ → Bool
valid_parents p parents = leb p 4294967294 && eqb (length parents % 32) 0 && leb (length parents / 32) 32

unfoldable pub parents_after : ℕ → List ℕ → ℕ → ℕ → List ℕ → List ℕ → After
parents_after p parents size timer s h =
    elim (valid_parents p parents) [
      | true ↦ settled size timer (received p parents s) h
      | false ↦ kept (Err BadShape) s h
    ]

-- a digest of 32 bytes, a worker id of 4
unfoldable pub valid_digest : List ℕ → ℕ → Bool
valid_digest digest worker = eqb (length digest) 32 && leb worker 4294967295

-- a 65th waiting digest, repeats counted, is 12
unfoldable pub digest_after : List ℕ → ℕ → ℕ → ℕ → List ℕ → List ℕ → After
digest_after digest worker size timer s h =
    elim (valid_digest digest worker) [
      | true ↦ elim (ltb (waiting_count s) 64) [ true ↦ settled size timer (added s digest worker) h | false ↦ kept (Err NoRoom) s h ]
      | false ↦ kept (Err BadShape) s h
    ]

-- header_size 0 to 4,294,967,295, the timer's verdict 0 or 1
unfoldable pub valid_pace : ℕ → ℕ → Bool
valid_pace size timer = leb size 4294967295 && leb timer 1

-- header_size 0 to 4,294,967,295, the timer's verdict 0 or 1, a header's 3,402 bytes, and a state
unfoldable pub valid_call : ℕ → ℕ → List ℕ → List ℕ → Bool
valid_call size timer s h = leb size 4294967295 && leb timer 1 && eqb (length h) 3402 && valid_state s

-- one event, by its tag: 1 parents, 2 a digest, 3 the timer; any other is 11
unfoldable pub by_tag : ℕ → ℕ → List ℕ → List ℕ → ℕ → ℕ → ℕ → List ℕ → List ℕ → After
by_tag tag p parents digest worker size timer s h =
    elim (eqb tag 1) [
      | true ↦ parents_after p parents size timer s h
      | false ↦
          elim (eqb tag 2) [
            | true ↦ digest_after digest worker size timer s h
            | false ↦ elim (eqb tag 3) [ true ↦ settled size timer s h | false ↦ kept (Err BadShape) s h ]
          ]
    ]

unfoldable pub event_after : ℕ → ℕ → List ℕ → List ℕ → ℕ → ℕ → ℕ → List ℕ → List ℕ → After
event_after tag p parents digest worker size timer s h =
    elim (valid_call size timer s h) [ true ↦ by_tag tag p parents digest worker size timer s h | false ↦ kept (Err BadShape) s h ]
