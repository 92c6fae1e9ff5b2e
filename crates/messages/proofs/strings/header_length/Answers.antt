use Rattle.messages.proofs.Writing.{header-length-is}
use Rattle.messages.proofs.strings.header_length.Goals as goal

pub returns : goal.returns
returns c = search header-length-is
