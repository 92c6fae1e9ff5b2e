use Rattle.aggregators.proofs.Counting.{round_is}
use Rattle.aggregators.proofs.rounds.is_of_round.Goals as goal

pub returns : goal.returns
returns c = search round_is
