use Rattle.dag.proofs.Piling.{last_fits, last-told}
use Rattle.dag.proofs.pile.is_last.Goals as goal

pub last_of-requires : goal.last_of-requires
last_of-requires c = search last_fits

pub returns : goal.returns
returns c = search last-told
