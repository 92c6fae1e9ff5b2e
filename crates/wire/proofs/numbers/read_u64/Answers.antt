use Rattle.wire.proofs.Std.{read8}
use Rattle.wire.proofs.numbers.read_u64.Goals as goal

pub returns : goal.returns
returns c = search read8
