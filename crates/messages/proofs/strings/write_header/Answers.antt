use Rattle.messages.proofs.Writing.{header-written}
use Rattle.messages.proofs.strings.write_header.Goals as goal

pub returns : goal.returns
returns c = search header-written
