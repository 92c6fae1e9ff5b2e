use Rattle.aggregators.proofs.Giving.{row_made}
use Rattle.aggregators.proofs.certificates.empty_row.Goals as goal

pub returns : goal.returns
returns c = search row_made
