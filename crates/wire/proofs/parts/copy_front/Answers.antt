use native.Mathlib.Omega.{arith}
use borrow.Author.Rules.{rules}
use mathlib.Core.Path.{◌≡◌, refl, ◌∙◌}
use native.Mathlib.Nat.{zero-add}
use lib.ListN.{length, length-set}
use lib.Seq.{take-length}
use Rattle.wire.specs.Bytes.{splice}
use Rattle.wire.proofs.Laws.{copy_step}
use Rattle.wire.proofs.parts.copy_front.Goals as goal

pub loop-k-init : goal.loop-k-init
loop-k-init c = (search rules, (refl, refl))

pub loop-k-preserved : goal.loop-k-preserved
loop-k-preserved c = (search rules, (rw c.loop-k.invariant.1.0 (copy_step c.args.dst.now c.args.src.now c.loop-k.k (omega arith) c.requires), simp length-set c.loop-k.invariant.1.1))

pub returns : goal.returns
unfolding splice
returns c = let e : c.loop-k.k ≡ length c.args.src.now = omega arith in
    c.loop-k.invariant.1.0 ∙ rw (e, take-length, zero-add)
