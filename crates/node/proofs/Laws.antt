-- From a module's answer to the number that the host gets. Assumes nothing.
use Rattle.refusal.specs.Answers.{Answer, code_of}
use mathlib.Core.Path.{◌≡◌, ap, ◌∙◌}
use mathlib.Core.List.{List}
use Prim.Native.Nat.{ℕ}
use Rattle.messages.specs.Strings.{header_string, vote_string}
use Rattle.messages.specs.Answers.{Written, may_header, may_vote}
use Rattle.synchronizer.specs.Answers.{ParentsAnswer, PayloadAnswer, LearnAnswer}
use Rattle.aggregators.specs.Votes.{CountsVote}
use Rattle.aggregators.specs.Certificates.{CountsCertificate}
use Rattle.proposer.specs.Events.{After, Left}
use Rattle.ordering.specs.Start.{Started}
use Rattle.node.specs.Promises.{HeaderString, VoteString, CountVote, CountCertificate, GetParents, MissingPayload, Learn, Proposed, OrderingStart}

module _ (r : ℕ) (a : Answer) (e : r ≡ code_of a) where
  pub header-string : (header out : List ℕ) (at : ℕ) (out' : List ℕ) → Written (may_header header out at) (header_string header) out at a out' → HeaderString header out at r out'
  header-string header out at out' w = record { answer = e ∙ ap code_of w.answer; buffer = w.buffer }

  pub vote-string : (id : List ℕ) (round : ℕ) (origin out : List ℕ) (at : ℕ) (out' : List ℕ) → Written (may_vote id round origin out at) (vote_string id round origin) out at a out' → VoteString id round origin out at r out'
  vote-string id round origin out at out' w = record { answer = e ∙ ap code_of w.answer; buffer = w.buffer }

module _ (r : ℕ) (a : Answer) (e : r ≡ code_of a) where
  pub get-parents : (members genesis known header out out' : List ℕ) → ParentsAnswer members genesis known header out a out' → GetParents members genesis known header out r out'
  get-parents members genesis known header out out' w = record { answer = e ∙ ap code_of w.answer; buffer = w.buffer }

  pub missing-payload : (own pairs header out out' : List ℕ) → PayloadAnswer own pairs header out a out' → MissingPayload own pairs header out r out'
  missing-payload own pairs header out out' w = record { answer = e ∙ ap code_of w.answer; buffer = w.buffer }

  pub learn : (known new known' : List ℕ) → LearnAnswer known new a known' → Learn known new r known'
  learn known new known' w = record { answer = e ∙ ap code_of w.answer; table = w.table }

pub proposed : (r : ℕ) (x : Answer) (a : After) (state header : List ℕ) → r ≡ code_of x → Left a x state header → Proposed a r state header
proposed r x a state header e w = record { answer = e ∙ ap code_of w.answer; state_is = w.state; header_is = w.header }

module _ (r : ℕ) (a : Answer) (e : r ≡ code_of a) where
  pub count-vote : (members voters author voters' : List ℕ) → CountsVote members voters author a voters' → CountVote members voters author r voters'
  count-vote members voters author voters' w = record { answer = e ∙ ap code_of w.answer; voters_are = w.voters }

  pub count-certificate : (members counts : List ℕ) (round : ℕ) (origin digest out counts' out' : List ℕ) → CountsCertificate members counts round origin digest out a counts' out' → CountCertificate members counts round origin digest out r counts' out'
  count-certificate members counts round origin digest out counts' out' w =
      record { answer = e ∙ ap code_of w.answer; counts_are = w.counts; buffer = w.buffer }

module _ (r : ℕ) (a : Answer) (e : r ≡ code_of a) where
  pub ordering-start : (setup genesis state table state' table' : List ℕ) → Started setup genesis state table a state' table' → OrderingStart setup genesis state table r state' table'
  ordering-start setup genesis state table state' table' w =
      record { answer = e ∙ ap code_of w.answer; state_is = w.state; table_is = w.table }
