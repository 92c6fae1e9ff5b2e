use Rattle.leaders.proofs.Following.{Marking}
use Rattle.leaders.proofs.link.follow.Given as goal

abbrev pub invariant-loop-i : goal.invariant-loop-i
invariant-loop-i l = Marking l.held.table.now l.initial.marks l.upper l.count l.marks l.i
