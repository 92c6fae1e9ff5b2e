use Rattle.messages.specs.Header.{round_of}
use Rattle.messages.proofs.header.round.Goals as goal

pub returns : goal.returns
unfolding round_of
returns c = c.read_u64.ensures
