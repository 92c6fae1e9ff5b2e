use mathlib.Core.Path.{refl}
use Rattle.messages.specs.Header.{payload_count}
use Rattle.messages.proofs.header.payload_count.Goals as goal

pub returns : goal.returns
unfolding payload_count
returns c = refl
