use Rattle.ordering.proofs.Beginning.{Filling}
use Rattle.ordering.proofs.start.put_rows.Given as goal

abbrev pub invariant-loop-i : goal.invariant-loop-i
invariant-loop-i l = Filling l.genesis l.n l.initial.table l.table l.i
