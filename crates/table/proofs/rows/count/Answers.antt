use Rattle.table.specs.Rows.{count_of}
use Rattle.table.proofs.rows.count.Goals as goal

pub returns : goal.returns
unfolding count_of
returns c = c.read_u64.ensures
