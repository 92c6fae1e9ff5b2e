use Rattle.room.proofs.Laws.{round-read}
use Rattle.room.proofs.get_round.Goals as goal

pub returns : goal.returns
returns c = search round-read
