use Rattle.node.proofs.Laws.{ordering-start}
use Rattle.ordering.proofs.Beginning.{start_small}
use Rattle.node.proofs.order.tundrimela_ordering_start.Goals as goal

pub long_code-requires : goal.long_code-requires
long_code-requires c = search start_small

pub returns : goal.returns
returns c = search ordering-start
