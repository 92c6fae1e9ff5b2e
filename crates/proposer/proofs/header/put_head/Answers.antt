use Rattle.proposer.proofs.Making.{head-is}
use Rattle.proposer.proofs.header.put_head.Goals as goal

pub returns : goal.returns
returns c = search head-is
