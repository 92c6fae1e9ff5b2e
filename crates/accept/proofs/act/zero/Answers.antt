use Rattle.accept.proofs.Committing.{all-zero}
use Rattle.accept.proofs.act.zero.Goals as goal

pub returns : goal.returns
returns c = search all-zero
