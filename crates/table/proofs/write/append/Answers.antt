use Rattle.table.proofs.Laws.{is-long, append-room, append-few, append-exit}
use native.Mathlib.Omega.{arith}
use Rattle.table.proofs.write.append.Goals as goal

pub count-n-requires : goal.count-n-requires
count-n-requires c = search is-long

pub overflow_mul-n : goal.overflow_mul-n
overflow_mul-n c = omega (arith, append-room c.args.size c.args.table.now c.args.new.now _ c.requires.table_value c.requires.table_bound c.requires.len c.count-n.ensures)

pub overflow_add-n : goal.overflow_add-n
overflow_add-n c = omega (arith, append-room c.args.size c.args.table.now c.args.new.now _ c.requires.table_value c.requires.table_bound c.requires.len c.count-n.ensures)

pub put_bytes-requires : goal.put_bytes-requires
put_bytes-requires c = search append-room

pub overflow_add-n-2 : goal.overflow_add-n-2
overflow_add-n-2 c = omega (arith, append-few c.args.size c.args.table.now c.args.new.now _ c.requires.table_value c.requires.table_bound c.requires.len c.count-n.ensures)

pub put_u64-requires : goal.put_u64-requires
put_u64-requires c = omega (arith, is-long c.args.size c.args.table.now c.requires.table_value)

pub returns : goal.returns
returns c = search append-exit
