use Rattle.held.proofs.Putting.{head-filled}
use Rattle.held.proofs.insert.fill_head.Goals as goal

pub returns : goal.returns
returns c = search head-filled
