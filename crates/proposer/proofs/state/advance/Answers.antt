use Rattle.proposer.proofs.Values.{advance-is}
use Rattle.proposer.proofs.state.advance.Goals as goal

pub returns : goal.returns
returns c = search advance-is
