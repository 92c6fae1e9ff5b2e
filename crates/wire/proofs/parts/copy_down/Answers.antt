use Rattle.wire.proofs.Std.{moved-part}
use Rattle.wire.proofs.parts.copy_down.Goals as goal

pub returns : goal.returns
returns c = search moved-part
