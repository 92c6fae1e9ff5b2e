use Rattle.synchronizer.proofs.Picking.{picking-room, picking-next}
use Rattle.synchronizer.proofs.Laws.{batches-start, batches-done}
use borrow.Author.Rules.{rules}
use Rattle.synchronizer.proofs.payload.missing_of.Goals as goal

pub loop-i-init : goal.loop-i-init
loop-i-init c = search (rules, batches-start)

pub put_if-m-requires : goal.put_if-m-requires
put_if-m-requires c = search (rules, picking-room)

pub loop-i-preserved : goal.loop-i-preserved
loop-i-preserved c = search (rules, picking-next)

pub returns : goal.returns
returns c = search batches-done
