use Rattle.node.proofs.Laws.{vote-string}
use Rattle.node.proofs.strings.tundrimela_certificate_string.Goals as goal

pub returns : goal.returns
returns c = search vote-string
