use Rattle.messages.proofs.Writing.{parents-put}
use Rattle.messages.proofs.strings.write_parents.Goals as goal

pub returns : goal.returns
returns c = search parents-put
