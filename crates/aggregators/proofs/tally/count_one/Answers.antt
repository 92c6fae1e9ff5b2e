use Rattle.aggregators.proofs.Weights.{count-full, count-on}
use Rattle.aggregators.proofs.tally.count_one.Goals as goal

pub returns-then-quorum-weight : goal.returns-then-quorum-weight
returns-then-quorum-weight c = search count-full

pub returns : goal.returns
returns c = search count-on
