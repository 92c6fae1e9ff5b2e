use Rattle.table.proofs.Laws.{set_room, set-exit}
use native.Mathlib.Omega.{arith}
use Rattle.table.proofs.write.set_row.Goals as goal

pub overflow_mul-i : goal.overflow_mul-i
overflow_mul-i c = omega (arith, set_room c.args.size c.args.table.now c.args.i c.args.new.now c.requires.table_value c.requires.i_bound c.requires.len)

pub overflow_add-i : goal.overflow_add-i
overflow_add-i c = omega (arith, set_room c.args.size c.args.table.now c.args.i c.args.new.now c.requires.table_value c.requires.i_bound c.requires.len)

pub put_bytes-requires : goal.put_bytes-requires
put_bytes-requires c = search set_room

pub returns : goal.returns
returns c = search set-exit
