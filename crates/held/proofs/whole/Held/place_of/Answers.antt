use Rattle.held.proofs.Laws.{lawful-shape}
use Rattle.held.proofs.whole.Held.place_of.Goals as goal

pub place_in-requires : goal.place_in-requires
place_in-requires c = search lawful-shape
