use native.Mathlib.Omega.{arith}
use Rattle.dag.proofs.Piling.{put-seen, put-fits, put-marked, put-new}
use Rattle.dag.proofs.pile.Pile.put_new.Goals as goal

pub returns-then-self-j-ne0 : goal.returns-then-self-j-ne0
returns-then-self-j-ne0 c = search put-seen

pub invariant_of-self : goal.invariant_of-self
invariant_of-self c = record { sound = search put-marked }

pub put-requires : goal.put-requires
put-requires c = search put-fits

pub overflow_add-self : goal.overflow_add-self
overflow_add-self c = omega (arith, put-fits _ _ _ _ c.args.self.now.sound c.requires c.if-self-j-ne0.false)

pub invariant_of-self-2 : goal.invariant_of-self-2
invariant_of-self-2 c = let w = put-new _ _ _ _ c.args.self.now.sound c.requires c.if-self-j-ne0.false _ c.put.ensures in record { sound = w.sound }

pub returns : goal.returns
returns c = search put-new
