use mathlib.Core.Path.{refl}
use Rattle.config.specs.Members.{worker_count}
use native.Mathlib.Omega.{arith}
use Rattle.config.proofs.members.worker_count.Goals as goal

pub overflow_cast-result : goal.overflow_cast-result
overflow_cast-result c = omega (arith, c.shared_slice_known-1.given 36)

pub returns : goal.returns
unfolding worker_count
returns c = refl
