use Rattle.dag.proofs.Going.{near-deep, near-kept}
use Rattle.dag.proofs.walk.keep_near.Goals as goal

pub returns-then-round-depth : goal.returns-then-round-depth
returns-then-round-depth c = search near-deep

pub returns : goal.returns
returns c = search near-kept
