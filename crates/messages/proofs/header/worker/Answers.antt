use Rattle.messages.specs.Header.{worker_in}
use Rattle.messages.proofs.header.worker.Goals as goal

pub returns : goal.returns
unfolding worker_in
returns c = c.read_u32.ensures
