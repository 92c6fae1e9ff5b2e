use Rattle.wire.proofs.Std.{alike-cut}
use Rattle.wire.proofs.bytes.same.Goals as goal

pub returns : goal.returns
returns c = search alike-cut
