use Rattle.held.proofs.Laws.{place-fits, place-length, of-pair-at}
use Rattle.held.proofs.place.is_of.Goals as goal

pub row-requires : goal.row-requires
row-requires c = search place-fits

pub row_is_of-requires : goal.row_is_of-requires
row_is_of-requires c = search place-length

pub returns : goal.returns
returns c = search of-pair-at
