use Rattle.node.proofs.Laws.{header-string}
use Rattle.node.proofs.strings.tundrimela_header_string.Goals as goal

pub returns : goal.returns
returns c = search header-string
