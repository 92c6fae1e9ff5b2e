use Rattle.dag.proofs.Piling.{putting-start, putting-done, putting-next}
use Rattle.dag.proofs.pile.put_parents.Goals as goal

pub loop-k-init : goal.loop-k-init
loop-k-init c = search putting-start

pub loop-k-preserved : goal.loop-k-preserved
loop-k-preserved c = search putting-next

pub returns : goal.returns
returns c = search putting-done
