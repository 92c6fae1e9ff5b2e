use Rattle.update.proofs.Laws.{raise-fits, raise-higher, raise-not}
use Rattle.update.proofs.raise.raise_one.Goals as goal

pub last_of-requires : goal.last_of-requires
last_of-requires c = search raise-fits

pub put_round-requires : goal.put_round-requires
put_round-requires c = search raise-fits

pub returns-then-last_of-r : goal.returns-then-last_of-r
returns-then-last_of-r c = search raise-higher

pub returns-else-last_of-r : goal.returns-else-last_of-r
returns-else-last_of-r c = search raise-not
