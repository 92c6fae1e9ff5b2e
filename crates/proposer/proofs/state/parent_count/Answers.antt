use Rattle.proposer.specs.State.{parent_count}
use mathlib.Core.Path.{refl}
use Rattle.proposer.proofs.state.parent_count.Goals as goal

pub returns : goal.returns
unfolding parent_count
returns c = refl
