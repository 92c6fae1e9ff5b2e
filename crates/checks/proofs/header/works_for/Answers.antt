use Rattle.checks.proofs.Laws.{works-is}
use Rattle.checks.proofs.header.works_for.Goals as goal

pub returns : goal.returns
returns c = search works-is
