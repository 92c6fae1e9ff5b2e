use Rattle.synchronizer.proofs.Laws.{own-header, other-header}
use Rattle.synchronizer.proofs.payload.missing_payload.Goals as goal

pub returns-then-same32 : goal.returns-then-same32
returns-then-same32 c = search own-header

pub returns : goal.returns
returns c = search other-header
