use Rattle.held.proofs.Laws.{names-yes, names-no}
use Rattle.held.proofs.whole.Held.names.Goals as goal

pub returns-in_default : goal.returns-in_default
returns-in_default c = search names-no

pub returns : goal.returns
returns c = search names-yes
