use Rattle.wire.specs.Bytes.{part}
use Rattle.wire.specs.Items.{item_in}
use Prim.Native.Nat.{◌+◌, ◌-◌, ◌*◌}
use mathlib.Core.Path.{◌≡◌}
use native.Mathlib.Omega.{arith}
use Rattle.wire.proofs.items.item.Goals as goal

pub returns : goal.returns
unfolding item_in part
returns c = let a = c.args in
    let e : a.at + a.i * a.size + a.size - (a.at + a.i * a.size) ≡ a.size = omega arith in
    rw e
