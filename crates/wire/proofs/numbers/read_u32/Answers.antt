use Rattle.wire.proofs.Std.{read4}
use Rattle.wire.proofs.numbers.read_u32.Goals as goal

pub returns : goal.returns
returns c = search read4
