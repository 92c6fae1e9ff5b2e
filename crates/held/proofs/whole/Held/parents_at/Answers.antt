use Rattle.held.proofs.Laws.{place-fits, place-length, parents-is, few-parents, lawful-shape}
use Rattle.held.proofs.whole.Held.parents_at.Goals as goal

pub row-requires : goal.row-requires
row-requires c = search (place-fits, lawful-shape)

pub parents-requires : goal.parents-requires
parents-requires c = search (place-length, lawful-shape, few-parents)

pub returns : goal.returns
returns c = search (parents-is, lawful-shape)
