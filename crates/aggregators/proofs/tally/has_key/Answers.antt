use Rattle.aggregators.proofs.Weights.{key_in, key-out}
use Rattle.aggregators.proofs.tally.has_key.Goals as goal

pub returns-in_default : goal.returns-in_default
returns-in_default c = search key-out

pub returns : goal.returns
returns c = search key_in
