use Rattle.held.proofs.Laws.{other-origin, this-origin}
use Rattle.held.proofs.place.row_is_of.Goals as goal

pub returns-then-origin : goal.returns-then-origin
returns-then-origin c = search other-origin

pub returns : goal.returns
returns c = search this-origin
