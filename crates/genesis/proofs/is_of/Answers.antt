use Rattle.genesis.proofs.Laws.{other-round, round-0}
use Rattle.genesis.proofs.is_of.Goals as goal

pub returns-then-read_u32-ne0 : goal.returns-then-read_u32-ne0
returns-then-read_u32-ne0 c = search other-round

pub returns : goal.returns
returns c = search round-0
