use Rattle.wire.proofs.Lists.{gap-mul}
use Rattle.sweep.specs.Kept.{finished}
use mathlib.Core.Path.{refl, ◌∙◌}
use native.Mathlib.Omega.{arith}
use Rattle.sweep.proofs.finish.Goals as goal

pub overflow_mul-m : goal.overflow_mul-m
overflow_mul-m c = let f = gap-mul c.args.m c.args.n c.args.size c.requires.m_le_n in omega arith

pub overflow_add-m : goal.overflow_add-m
overflow_add-m c = let f = gap-mul c.args.m c.args.n c.args.size c.requires.m_le_n in omega arith

pub overflow_mul-gone : goal.overflow_mul-gone
overflow_mul-gone c = let f = gap-mul c.args.m c.args.n c.args.size c.requires.m_le_n in omega arith

pub clear_bytes-requires : goal.clear_bytes-requires
clear_bytes-requires c = let f = gap-mul c.args.m c.args.n c.args.size c.requires.m_le_n in omega arith

pub returns : goal.returns
unfolding finished
returns c = record { table_after = c.put_u64.ensures ∙ rw c.clear_bytes.ensures; value = refl }
