use Rattle.wire.proofs.Std.{put4}
use Rattle.wire.proofs.numbers.put_u32.Goals as goal

pub returns : goal.returns
returns c = search put4
