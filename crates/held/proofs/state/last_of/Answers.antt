use Rattle.held.proofs.Laws.{last-is}
use Rattle.held.proofs.state.last_of.Goals as goal

pub returns : goal.returns
returns c = search last-is
