use Rattle.held.proofs.Laws.{place-fits, place-length, round_is, lawful-shape}
use Rattle.held.proofs.whole.Held.round_at.Goals as goal

pub row-requires : goal.row-requires
row-requires c = search (place-fits, lawful-shape)

pub round-requires : goal.round-requires
round-requires c = search (place-length, lawful-shape)

pub returns : goal.returns
returns c = search (round_is, lawful-shape)
