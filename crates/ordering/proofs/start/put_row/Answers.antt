use Rattle.ordering.proofs.Beginning.{row_put}
use Rattle.ordering.proofs.start.put_row.Goals as goal

pub returns : goal.returns
returns c = search row_put
