use Rattle.node.proofs.Laws.{count-certificate}
use Rattle.node.proofs.count.tundrimela_count_certificate.Goals as goal

pub returns : goal.returns
returns c = search count-certificate
