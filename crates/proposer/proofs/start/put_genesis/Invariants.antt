use Rattle.proposer.proofs.Beginning.{Gathered}
use Rattle.proposer.proofs.start.put_genesis.Given as goal

abbrev pub invariant-loop-i : goal.invariant-loop-i
invariant-loop-i l = Gathered l.genesis l.n l.initial.state l.state l.i
