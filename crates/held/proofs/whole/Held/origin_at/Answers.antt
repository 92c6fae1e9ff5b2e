use Rattle.held.proofs.Laws.{place-fits, place-length, origin-is, lawful-shape}
use Rattle.held.proofs.whole.Held.origin_at.Goals as goal

pub row-requires : goal.row-requires
row-requires c = search (place-fits, lawful-shape)

pub origin-requires : goal.origin-requires
origin-requires c = search (place-length, lawful-shape)

pub returns-clause-value : goal.returns-clause-value
returns-clause-value c = search (origin-is, lawful-shape)
