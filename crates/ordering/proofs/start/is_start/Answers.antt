use Rattle.ordering.proofs.Beginning.{start-genesis, start-state, start-last}
use Rattle.ordering.proofs.start.is_start.Goals as goal

pub returns-then-not-valid_genesis : goal.returns-then-not-valid_genesis
returns-then-not-valid_genesis c = search start-genesis

pub returns-then-state-n : goal.returns-then-state-n
returns-then-state-n c = search start-state

pub returns : goal.returns
returns c = search start-last
