use Rattle.proposer.proofs.Beginning.{started-is}
use Rattle.proposer.proofs.start.start_state.Goals as goal

pub returns : goal.returns
returns c = search started-is
