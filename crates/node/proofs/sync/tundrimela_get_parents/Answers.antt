use Rattle.node.proofs.Laws.{get-parents}
use Rattle.node.proofs.sync.tundrimela_get_parents.Goals as goal

pub returns : goal.returns
returns c = search get-parents
