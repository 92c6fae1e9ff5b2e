use Rattle.aggregators.proofs.Giving.{Writing}
use Rattle.aggregators.proofs.certificates.put_digests.Given as goal

abbrev pub invariant-loop-i : goal.invariant-loop-i
invariant-loop-i l = Writing l.row l.from l.n l.initial.out l.i l.out
