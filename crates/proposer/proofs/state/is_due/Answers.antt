use Rattle.proposer.proofs.Values.{due-no-parents, due-timer, due-size}
use Rattle.proposer.proofs.state.is_due.Goals as goal

pub returns-then-parent_count-eq0 : goal.returns-then-parent_count-eq0
returns-then-parent_count-eq0 c = search due-no-parents

pub returns-then-pace-eq1 : goal.returns-then-pace-eq1
returns-then-pace-eq1 c = search due-timer

pub returns : goal.returns
returns c = search due-size
