use Rattle.wire.proofs.Laws.{splice-one}
use Rattle.proposer.proofs.state.put_count.Goals as goal

pub returns : goal.returns
returns c = search splice-one
