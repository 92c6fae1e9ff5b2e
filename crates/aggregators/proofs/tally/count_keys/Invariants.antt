use Rattle.aggregators.proofs.Weights.{Weighing}
use Rattle.aggregators.proofs.tally.count_keys.Given as goal

abbrev pub invariant-loop-i : goal.invariant-loop-i
invariant-loop-i l = Weighing l.committee.members.now l.quorum l.size l.list l.at l.n l.i l.t
