use Rattle.proposer.proofs.Beginning.{gathered-start, gathered-item, gathered-room, gathered_next, gathered-done}
use Rattle.proposer.proofs.start.put_genesis.Goals as goal

pub loop-i-init : goal.loop-i-init
loop-i-init c = search gathered-start

pub digest-one-requires : goal.digest-one-requires
digest-one-requires c = search gathered-item

pub put_bytes-requires : goal.put_bytes-requires
put_bytes-requires c = search gathered-room

pub loop-i-preserved : goal.loop-i-preserved
loop-i-preserved c = search gathered_next

pub returns : goal.returns
returns c = search gathered-done
