use Rattle.wire.proofs.Laws.{splice-one}
use Rattle.wire.proofs.numbers.put_u8.Goals as goal

pub returns : goal.returns
returns c = search splice-one
