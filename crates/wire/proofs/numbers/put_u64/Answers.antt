use Rattle.wire.proofs.Std.{put8}
use Rattle.wire.proofs.numbers.put_u64.Goals as goal

pub returns : goal.returns
returns c = search put8
