use Rattle.table.proofs.Laws.{is-long, is-big, room-is}
use native.Mathlib.Omega.{arith}
use Rattle.table.proofs.rows.room.Goals as goal

pub overflow_sub-body : goal.overflow_sub-body
overflow_sub-body c = omega (arith, is-long c.args.size c.args.table.now c.requires)

pub count-requires : goal.count-requires
count-requires c = search is-long

pub nonzero_div-result : goal.nonzero_div-result
nonzero_div-result c = omega (arith, is-big c.args.size c.args.table.now c.requires)

pub returns : goal.returns
returns c = search room-is
