use Rattle.room.proofs.Laws.{number_read}
use Rattle.room.proofs.get.Goals as goal

pub returns : goal.returns
returns c = search number_read
