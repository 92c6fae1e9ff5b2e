use Rattle.held.proofs.Laws.{place-fits, place-length, digest-is, lawful-shape}
use Rattle.held.proofs.whole.Held.digest_at.Goals as goal

pub row-requires : goal.row-requires
row-requires c = search (place-fits, lawful-shape)

pub digest-requires : goal.digest-requires
digest-requires c = search (place-length, lawful-shape)

pub returns : goal.returns
returns c = search (digest-is, lawful-shape)
