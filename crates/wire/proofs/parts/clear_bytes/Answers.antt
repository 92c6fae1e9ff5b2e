use Rattle.wire.proofs.Std.{fill-part}
use Rattle.wire.proofs.parts.clear_bytes.Goals as goal

pub returns : goal.returns
returns c = search fill-part
