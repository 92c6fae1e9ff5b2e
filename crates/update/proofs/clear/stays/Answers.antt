use Rattle.update.proofs.Laws.{stays-later, stays-deep}
use Rattle.update.proofs.clear.stays.Goals as goal

pub returns-then-round-last_of : goal.returns-then-round-last_of
returns-then-round-last_of c = search stays-later

pub returns : goal.returns
returns c = search stays-deep
