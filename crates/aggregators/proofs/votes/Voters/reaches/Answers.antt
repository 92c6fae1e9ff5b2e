use Rattle.aggregators.proofs.Voting.{vote-reaches}
use Rattle.aggregators.proofs.votes.Voters.reaches.Goals as goal

pub returns : goal.returns
returns c = search vote-reaches
