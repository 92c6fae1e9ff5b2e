use native.Mathlib.Omega.{arith}
use borrow.Author.Rules.{rules}
use mathlib.Core.Path.{◌≡◌, refl, sym, ◌∙◌}
use Prim.Native.Nat.{◌+◌, ◌-◌}
use native.Mathlib.Nat.{add-zero}
use Rattle.wire.proofs.Laws.{less-on, less-not, less_none}
use Rattle.wire.proofs.bytes.less32.Goals as goal

pub loop-k-init : goal.loop-k-init
loop-k-init c = (search rules, simp add-zero)

pub returns-then-x-y : goal.returns-then-x-y
returns-then-x-y c = let k = c.loop-k.k in
    sym (c.loop-k.invariant.1 ∙ less-not c.args.a.now c.args.b.now (c.args.i + k) (c.args.j + k) (32 - k) (c.args.i + k + 1) (c.args.j + k + 1) (32 - k - 1) refl refl (omega arith) (omega arith) (omega arith) c.if-x-y.true)

pub loop-k-preserved : goal.loop-k-preserved
loop-k-preserved c = let k = c.loop-k.k in
    (search rules, c.loop-k.invariant.1 ∙ less-on c.args.a.now c.args.b.now (c.args.i + k) (c.args.j + k) (32 - k) (c.args.i + (k + 1)) (c.args.j + (k + 1)) (32 - (k + 1)) (omega arith) (omega arith) (omega arith) (omega arith) (omega arith) c.if-x-y.false)

pub returns : goal.returns
returns c = let e : 32 - c.loop-k.k ≡ 0 = omega arith in
    sym (c.loop-k.invariant.1 ∙ rw (e, less_none))
