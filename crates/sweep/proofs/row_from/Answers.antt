use Rattle.sweep.specs.Kept.{from_round}
use Rattle.table.specs.Rows.{round_of}
use Rattle.sweep.proofs.row_from.Goals as goal

pub returns : goal.returns
unfolding from_round round_of
returns c = rw c.read_u32.ensures
