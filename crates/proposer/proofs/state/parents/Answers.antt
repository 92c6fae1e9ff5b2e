use Rattle.proposer.proofs.Values.{part-read}
use Rattle.proposer.proofs.state.parents.Goals as goal

pub returns : goal.returns
returns c = search part-read
