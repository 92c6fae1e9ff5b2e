use Rattle.commit.proofs.Lending.{Lends}
use Rattle.commit.proofs.serve.Given as goal

abbrev pub invariant-loop-left : goal.invariant-loop-left
invariant-loop-left l = Lends l.n l.depth l.k l.h l.initial.state l.initial.table l.initial.pile l.initial.link l.initial.sort l.initial.list l.state l.table l.pile l.link l.sort l.list l.left l.at
