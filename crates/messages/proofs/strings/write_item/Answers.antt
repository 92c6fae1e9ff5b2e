use Rattle.messages.proofs.Writing.{whole-written}
use Rattle.messages.proofs.strings.write_item.Goals as goal

pub returns : goal.returns
returns c = search whole-written
