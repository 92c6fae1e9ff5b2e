use Rattle.node.proofs.Laws.{learn}
use Rattle.node.proofs.sync.tundrimela_learn.Goals as goal

pub returns : goal.returns
returns c = search learn
