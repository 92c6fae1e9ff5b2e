use Rattle.messages.specs.Vote.{vote_round}
use Rattle.messages.proofs.vote.round.Goals as goal

pub returns : goal.returns
unfolding vote_round
returns c = c.read_u64.ensures
