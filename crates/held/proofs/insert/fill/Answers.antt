use Rattle.held.proofs.Putting.{filled}
use Rattle.held.proofs.insert.fill.Goals as goal

pub returns : goal.returns
returns c = search filled
