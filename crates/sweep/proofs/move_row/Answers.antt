use Rattle.sweep.proofs.Laws.{moved-not, counted-not, moved-stands, moved_down, counted-one}
use native.Mathlib.Nat.{mul-le-mul_right, le-mul_of_pos_right}
use native.Mathlib.Omega.{arith}
use Rattle.sweep.proofs.move_row.Goals as goal

pub returns-then-not-keep : goal.returns-then-not-keep
returns-then-not-keep c = search (moved-not, counted-not)

pub overflow_add-result : goal.overflow_add-result
overflow_add-result c = let f = le-mul_of_pos_right c.args.i c.requires.le_size in omega arith

pub returns-then-m-i : goal.returns-then-m-i
returns-then-m-i c = search (moved-stands, counted-one)

pub overflow_mul-m : goal.overflow_mul-m
overflow_mul-m c = let f = mul-le-mul_right c.args.size c.requires.m_le_i in omega arith

pub overflow_add-m : goal.overflow_add-m
overflow_add-m c = let f = mul-le-mul_right c.args.size c.requires.m_le_i in omega arith

pub copy_down-requires : goal.copy_down-requires
copy_down-requires c = let f = mul-le-mul_right c.args.size c.requires.m_le_i in
    record { to_le_from = omega arith; n_in_bounds = omega arith }

pub overflow_add-result-2 : goal.overflow_add-result-2
overflow_add-result-2 c = let f = le-mul_of_pos_right c.args.i c.requires.le_size in omega arith

pub returns : goal.returns
returns c = search (moved_down, counted-one)
