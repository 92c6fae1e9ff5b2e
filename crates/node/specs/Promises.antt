-- What the entry points promise that write to a lent slice: the answer and the slice's final content, for every input. The answer of
-- each other entry point is the one equation of its contract. Assumes nothing.
use Rattle.refusal.specs.Answers.{code_of}
use Rattle.std.specs.Prelude.{◌≡◌, ◌&&◌, List, ℕ, eqb, length, drop}
use Rattle.config.specs.Members.{members_of}
use Rattle.config.specs.Committee.{valid_members}
use Rattle.messages.specs.Strings.{header_string, vote_string}
use Rattle.messages.specs.Answers.{written_answer, written_out, may_header, may_vote}
use Rattle.aggregators.specs.Votes.{count_vote}
use Rattle.aggregators.specs.Certificates.{count_certificate}
use Rattle.synchronizer.specs.Payload.{pairs_of, missing_payload}
use Rattle.synchronizer.specs.Answers.{out_as, lookable, missing_of, parents_answer, payload_shape, payload_answer, learn_answer, learnt_table}
use Rattle.proposer.specs.Events.{After}
use Rattle.ordering.specs.Answers.{when_done}
use Rattle.ordering.specs.Start.{start_answer, digests_of, fresh_state, fresh_table}

-- ---- messages
pub record HeaderString (header out : List ℕ) (at r : ℕ) (out' : List ℕ) : Type 0 where
  pub answer : r ≡ code_of (written_answer (may_header header out at) (header_string header))
  pub buffer : out' ≡ written_out (may_header header out at) out at (header_string header)

-- a vote's and a certificate's string are the same
pub record VoteString (id : List ℕ) (round : ℕ) (origin out : List ℕ) (at r : ℕ) (out' : List ℕ) : Type 0 where
  pub answer : r ≡ code_of (written_answer (may_vote id round origin out at) (vote_string id round origin))
  pub buffer : out' ≡ written_out (may_vote id round origin out at) out at (vote_string id round origin)

-- ---- aggregators
pub record CountVote (members voters author : List ℕ) (r : ℕ) (voters' : List ℕ) : Type 0 where
  pub answer : r ≡ code_of (count_vote members voters author).answer
  pub voters_are : voters' ≡ (count_vote members voters author).voters

pub record CountCertificate (members counts : List ℕ) (round : ℕ) (origin digest out : List ℕ) (r : ℕ) (counts' out' : List ℕ) : Type 0 where
  pub answer : r ≡ code_of (count_certificate members counts round origin digest out).answer
  pub counts_are : counts' ≡ (count_certificate members counts round origin digest out).counts
  pub buffer : out' ≡ (count_certificate members counts round origin digest out).out

-- ---- synchronizer
pub record GetParents (members genesis known header out : List ℕ) (r : ℕ) (out' : List ℕ) : Type 0 where
  pub answer : r ≡ code_of (parents_answer members genesis known header out)
  pub buffer : out' ≡ out_as (valid_members members && (lookable members genesis known header && eqb (length out) 1024)) (missing_of genesis known header) out

pub record MissingPayload (own pairs header out : List ℕ) (r : ℕ) (out' : List ℕ) : Type 0 where
  pub answer : r ≡ code_of (payload_answer own pairs header out)
  pub buffer : out' ≡ out_as (payload_shape own pairs header out) (missing_payload own (pairs_of pairs) header) out

pub record Learn (known new : List ℕ) (r : ℕ) (known' : List ℕ) : Type 0 where
  pub answer : r ≡ code_of (learn_answer known new)
  pub table : known' ≡ learnt_table known new

-- ---- proposer: of what its start or an event is to leave
pub record Proposed (a : After) (r : ℕ) (state header : List ℕ) : Type 0 where
  pub answer : r ≡ code_of a.answer
  pub state_is : state ≡ a.state
  pub header_is : header ≡ a.header

-- ---- ordering
pub record OrderingStart (setup genesis state table : List ℕ) (r : ℕ) (state' table' : List ℕ) : Type 0 where
  pub answer : r ≡ code_of (start_answer setup genesis state table)
  pub state_is : state' ≡ when_done (start_answer setup genesis state table) (fresh_state (length (members_of (drop 8 setup)))) state
  pub table_is : table' ≡ when_done (start_answer setup genesis state table) (fresh_table (length table) (digests_of genesis)) table
