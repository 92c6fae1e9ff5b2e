use Prim.Native.Nat.{◌+◌, ◌-◌}
use Rattle.table.specs.Rows.{count_of}
use Rattle.consensus.proofs.Marks.{ones}
use Rattle.dag.proofs.Going.{Going}
use Rattle.dag.proofs.walk.follow.Given as goal

abbrev pub invariant-loop-pile : goal.invariant-loop-pile
invariant-loop-pile l = Going l.state.last.now l.state.held.table.now l.depth l.top l.initial.pile.bytes.now l.initial.pile.height l.initial.pile.marks.now l.initial.out l.pile.bytes.now l.pile.marks.now l.out l.pile.height l.m

abbrev pub decreases-loop-pile : goal.decreases-loop-pile
decreases-loop-pile l = count_of l.state.held.table.now + l.pile.height - ones l.pile.marks.now
