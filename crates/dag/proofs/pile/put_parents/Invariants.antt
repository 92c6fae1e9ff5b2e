use Rattle.dag.proofs.Piling.{Putting}
use Rattle.dag.proofs.pile.put_parents.Given as goal

abbrev pub invariant-loop-k : goal.invariant-loop-k
invariant-loop-k l = Putting l.state.last.now l.state.held.table.now l.x l.parents l.round l.m l.initial.pile.bytes.now l.initial.pile.height l.initial.pile.marks.now l.pile.bytes.now l.pile.height l.pile.marks.now l.k
