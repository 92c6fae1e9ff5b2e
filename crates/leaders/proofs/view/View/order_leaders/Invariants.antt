use Rattle.leaders.proofs.Joining.{Joining}
use Rattle.leaders.proofs.view.View.order_leaders.Given as goal

abbrev pub invariant-loop-q : goal.invariant-loop-q
invariant-loop-q l = Joining l.self.setup.bytes.now l.state l.self.held.table.now l.opener l.self.held.members l.low l.first l.initial.rounds l.marks l.rounds l.last l.k l.r

abbrev pub decreases-loop-q : goal.decreases-loop-q
decreases-loop-q l = l.r
