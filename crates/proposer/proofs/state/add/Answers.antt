use Rattle.proposer.proofs.Values.{add_is}
use Rattle.proposer.proofs.state.add.Goals as goal

pub returns : goal.returns
returns c = search add_is
