use Rattle.aggregators.proofs.Counting.{few-is}
use Rattle.aggregators.proofs.rounds.has_few_pairs.Goals as goal

pub returns : goal.returns
returns c = search few-is
