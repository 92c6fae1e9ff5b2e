use native.Mathlib.Omega.{arith}
use Rattle.dag.proofs.Going.{start-near}
use Rattle.dag.proofs.walk.walk.Goals as goal

pub returns : goal.returns
returns c = record { is = search start-near; few = c.follow.ensures.few; pile = omega arith; marks = omega arith; out = c.follow.ensures.out }
