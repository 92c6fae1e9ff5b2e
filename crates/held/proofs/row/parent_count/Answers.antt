use native.Mathlib.Omega.{arith}
use Rattle.held.specs.Rows.{parent_count}
use mathlib.Core.Path.{refl}
use Rattle.held.proofs.row.parent_count.Goals as goal

pub overflow_cast-result : goal.overflow_cast-result
overflow_cast-result c = omega (arith, c.type_inv.row 5)

pub returns : goal.returns
unfolding parent_count
returns c = refl
