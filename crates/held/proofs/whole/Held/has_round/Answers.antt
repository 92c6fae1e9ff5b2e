use Rattle.held.proofs.Laws.{lawful-shape}
use Rattle.held.proofs.whole.Held.has_round.Goals as goal

pub has_round-requires : goal.has_round-requires
has_round-requires c = search lawful-shape
