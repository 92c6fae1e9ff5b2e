use mathlib.Core.Path.{refl}
use Rattle.messages.specs.Header.{parent_count}
use Rattle.messages.proofs.header.parent_count.Goals as goal

pub returns : goal.returns
unfolding parent_count
returns c = refl
