use Rattle.proposer.proofs.Values.{next-round-is}
use Rattle.proposer.proofs.state.next_round.Goals as goal

pub returns : goal.returns
returns c = search next-round-is
