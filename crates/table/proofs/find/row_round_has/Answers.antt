use Rattle.table.proofs.Laws.{other-round, this-round}
use Rattle.table.proofs.find.row_round_has.Goals as goal

pub returns-then-read_u32-round : goal.returns-then-read_u32-round
returns-then-read_u32-round c = search other-round

pub returns : goal.returns
returns c = search this-round
