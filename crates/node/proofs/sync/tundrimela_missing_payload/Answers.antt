use Rattle.node.proofs.Laws.{missing-payload}
use Rattle.node.proofs.sync.tundrimela_missing_payload.Goals as goal

pub returns : goal.returns
returns c = search missing-payload
