use Rattle.leaders.proofs.Supporting.{Summing}
use Rattle.leaders.proofs.view.View.is_supported.Given as goal

abbrev pub invariant-loop-i : goal.invariant-loop-i
invariant-loop-i l = Summing l.self.setup.bytes.now l.self.held.table.now l.digest l.round l.need l.count l.sum l.i
