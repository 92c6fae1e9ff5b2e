use Rattle.proposer.specs.State.{round_in}
use Rattle.proposer.proofs.state.round.Goals as goal

pub returns : goal.returns
unfolding round_in
returns c = c.read_u32.ensures
