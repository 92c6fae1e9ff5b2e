use native.Mathlib.Omega.{arith}
use Rattle.held.specs.Rows.{origin_in}
use mathlib.Core.Path.{refl}
use Rattle.held.proofs.row.origin.Goals as goal

pub overflow_cast-result : goal.overflow_cast-result
overflow_cast-result c = omega (arith, c.type_inv.row 4)

pub returns-clause-value : goal.returns-clause-value
unfolding origin_in
returns-clause-value c = refl

pub returns-clause-byte : goal.returns-clause-byte
returns-clause-byte c = omega (arith, c.type_inv.row 4)
