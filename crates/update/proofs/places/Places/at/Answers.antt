use Rattle.update.proofs.Laws.{place-below}
use Rattle.update.proofs.places.Places.at.Goals as goal

pub returns-clause-below : goal.returns-clause-below
returns-clause-below c = search place-below
