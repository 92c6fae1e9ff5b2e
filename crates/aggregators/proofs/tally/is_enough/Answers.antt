use Rattle.aggregators.proofs.Weights.{enough-is}
use Rattle.aggregators.proofs.tally.is_enough.Goals as goal

pub returns : goal.returns
returns c = search enough-is
