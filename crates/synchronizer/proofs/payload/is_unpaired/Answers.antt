use Rattle.synchronizer.proofs.Laws.{paired, not-paired}
use Rattle.synchronizer.proofs.payload.is_unpaired.Goals as goal

pub returns-in-Some : goal.returns-in-Some
returns-in-Some c = search paired

pub returns : goal.returns
returns c = search not-paired
