use Rattle.proposer.specs.State.{waiting_count}
use mathlib.Core.Path.{refl}
use Rattle.proposer.proofs.state.waiting_count.Goals as goal

pub returns : goal.returns
unfolding waiting_count
returns c = refl
