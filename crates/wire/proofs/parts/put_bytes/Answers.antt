use Rattle.wire.proofs.Laws.{splice-mid}
use Rattle.wire.proofs.parts.put_bytes.Goals as goal

pub returns : goal.returns
returns c = rw c.copy_front.ensures (splice-mid c.args.dst.now c.args.src.now c.args.at c.requires)
