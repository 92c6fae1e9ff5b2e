use Rattle.table.proofs.Laws.{found-row-fits, found-row-length}
use Rattle.synchronizer.proofs.Laws.{genesis-fits, genesis-long, parent-genesis, parent-known, parent-none}
use Rattle.synchronizer.proofs.parents.parent.Goals as goal

pub item-requires : goal.item-requires
item-requires c = search genesis-fits

pub returns-in-Some : goal.returns-in-Some
returns-in-Some c = search (parent-genesis, genesis-long)

pub row-requires : goal.row-requires
row-requires c = search found-row-fits

pub returns-in-Some-find_part : goal.returns-in-Some-find_part
returns-in-Some-find_part c = search (parent-known, found-row-length)

pub returns : goal.returns
returns c = search parent-none
