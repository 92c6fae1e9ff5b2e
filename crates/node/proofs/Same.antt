-- Each entry point's promise allows one result: two results that it allows are the same. Assumes nothing.
use mathlib.Core.Path.{◌≡◌, sym, ◌∙◌}
use mathlib.Core.List.{List}
use Prim.Native.Nat.{ℕ}
use Rattle.synchronizer.specs.Answers.{deliver_answer}
use Rattle.checks.specs.Header.{header_check}
use Rattle.checks.specs.Vote.{vote_check}
use Rattle.checks.specs.Certificate.{certificate_check}
use Rattle.proposer.specs.Events.{After}
use Rattle.node.specs.Promises.{HeaderString, VoteString, CountVote, CountCertificate, GetParents, MissingPayload, Learn, Proposed, OrderingStart}
use Rattle.refusal.specs.Answers.{code_of}
use Rattle.config.specs.Answers.{committee_answer, setup_answer, quorum_answer, validity_answer, stake_answer, worker_answer, leader_answer}

module _ (r s : ℕ) where
  pub same-committee : (members : List ℕ) → r ≡ code_of (committee_answer members) → s ≡ code_of (committee_answer members) → r ≡ s
  same-committee members p q = p ∙ sym q

  pub same-setup : (setup : List ℕ) → r ≡ code_of (setup_answer setup) → s ≡ code_of (setup_answer setup) → r ≡ s
  same-setup setup p q = p ∙ sym q

  pub same-quorum : (members : List ℕ) → r ≡ code_of (quorum_answer members) → s ≡ code_of (quorum_answer members) → r ≡ s
  same-quorum members p q = p ∙ sym q

  pub same-validity : (members : List ℕ) → r ≡ code_of (validity_answer members) → s ≡ code_of (validity_answer members) → r ≡ s
  same-validity members p q = p ∙ sym q

  pub same-stake : (members key : List ℕ) → r ≡ code_of (stake_answer members key) → s ≡ code_of (stake_answer members key) → r ≡ s
  same-stake members key p q = p ∙ sym q

  pub same-worker : (members key : List ℕ) (id : ℕ) → r ≡ code_of (worker_answer members key id) → s ≡ code_of (worker_answer members key id) → r ≡ s
  same-worker members key id p q = p ∙ sym q

  pub same-leader : (members : List ℕ) (round : ℕ) → r ≡ code_of (leader_answer members round) → s ≡ code_of (leader_answer members round) → r ≡ s
  same-leader members round p q = p ∙ sym q

-- ---- entry points that write to a slice: answer and content
module _ (r s : ℕ) (u v : List ℕ) where
  pub same-header-string : (header out : List ℕ) (at : ℕ) → HeaderString header out at r u → HeaderString header out at s v → (r ≡ s) × (u ≡ v)
  same-header-string header out at p q = (p.answer ∙ sym q.answer, p.buffer ∙ sym q.buffer)

  -- of `tundrimela_vote_string` and of `tundrimela_certificate_string`
  pub same-vote-string : (id : List ℕ) (round : ℕ) (origin out : List ℕ) (at : ℕ) → VoteString id round origin out at r u → VoteString id round origin out at s v → (r ≡ s) × (u ≡ v)
  same-vote-string id round origin out at p q = (p.answer ∙ sym q.answer, p.buffer ∙ sym q.buffer)

  pub same-get-parents : (members genesis known header out : List ℕ) → GetParents members genesis known header out r u → GetParents members genesis known header out s v → (r ≡ s) × (u ≡ v)
  same-get-parents members genesis known header out p q = (p.answer ∙ sym q.answer, p.buffer ∙ sym q.buffer)

  pub same-missing-payload : (own pairs header out : List ℕ) → MissingPayload own pairs header out r u → MissingPayload own pairs header out s v → (r ≡ s) × (u ≡ v)
  same-missing-payload own pairs header out p q = (p.answer ∙ sym q.answer, p.buffer ∙ sym q.buffer)

  pub same-learn : (known new : List ℕ) → Learn known new r u → Learn known new s v → (r ≡ s) × (u ≡ v)
  same-learn known new p q = (p.answer ∙ sym q.answer, p.table ∙ sym q.table)

pub same-deliver : (r s : ℕ) (members genesis known header : List ℕ) → r ≡ code_of (deliver_answer members genesis known header) → s ≡ code_of (deliver_answer members genesis known header) → r ≡ s
same-deliver r s members genesis known header p q = p ∙ sym q

-- ---- checks
module _ (r s : ℕ) (members : List ℕ) where
  pub same-header-check : (header : List ℕ) (id sig : ℕ) → r ≡ code_of (header_check members header id sig) → s ≡ code_of (header_check members header id sig) → r ≡ s
  same-header-check header id sig p q = p ∙ sym q

  pub same-vote-check : (vote : List ℕ) (sig : ℕ) → r ≡ code_of (vote_check members vote sig) → s ≡ code_of (vote_check members vote sig) → r ≡ s
  same-vote-check vote sig p q = p ∙ sym q

  pub same-certificate-check : (certificate : List ℕ) (id sig batch : ℕ) → r ≡ code_of (certificate_check members certificate id sig batch) → s ≡ code_of (certificate_check members certificate id sig batch) → r ≡ s
  same-certificate-check certificate id sig batch p q = p ∙ sym q

-- ---- the proposer: answer, state and header, of `tundrimela_proposer_start` and of `tundrimela_proposer_event`
pub same-proposed : (a : After) (r s : ℕ) (t u g h : List ℕ) → Proposed a r t g → Proposed a s u h → (r ≡ s) × ((t ≡ u) × (g ≡ h))
same-proposed a r s t u g h p q = (p.answer ∙ sym q.answer, (p.state_is ∙ sym q.state_is, p.header_is ∙ sym q.header_is))

-- ---- aggregators
pub same-count-vote : (members voters author : List ℕ) (r s : ℕ) (u v : List ℕ) → CountVote members voters author r u → CountVote members voters author s v → (r ≡ s) × (u ≡ v)
same-count-vote members voters author r s u v p q = (p.answer ∙ sym q.answer, p.voters_are ∙ sym q.voters_are)

pub same-count-certificate : (members counts : List ℕ) (round : ℕ) (origin digest out : List ℕ) (r s : ℕ) (t u v w : List ℕ) → CountCertificate members counts round origin digest out r t v → CountCertificate members counts round origin digest out s u w → (r ≡ s) × ((t ≡ u) × (v ≡ w))
same-count-certificate members counts round origin digest out r s t u v w p q =
    (p.answer ∙ sym q.answer, (p.counts_are ∙ sym q.counts_are, p.buffer ∙ sym q.buffer))

-- ---- ordering
pub same-ordering-start : (setup genesis state table : List ℕ) (r s : ℕ) (t u v w : List ℕ) → OrderingStart setup genesis state table r t v → OrderingStart setup genesis state table s u w → (r ≡ s) × ((t ≡ u) × (v ≡ w))
same-ordering-start setup genesis state table r s t u v w p q =
    (p.answer ∙ sym q.answer, (p.state_is ∙ sym q.state_is, p.table_is ∙ sym q.table_is))
