use Rattle.synchronizer.proofs.Laws.{lacks-told}
use Rattle.synchronizer.proofs.parents.is_missing.Goals as goal

pub returns : goal.returns
returns c = search lacks-told
