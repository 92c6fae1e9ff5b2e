use Rattle.held.proofs.Laws.{parents-part}
use Rattle.held.proofs.row.parents.Goals as goal

pub returns : goal.returns
returns c = search parents-part
