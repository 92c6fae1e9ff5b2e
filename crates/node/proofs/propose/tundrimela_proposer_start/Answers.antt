use Rattle.node.proofs.Laws.{proposed}
use Rattle.node.proofs.propose.tundrimela_proposer_start.Goals as goal

pub returns : goal.returns
returns c = search proposed
