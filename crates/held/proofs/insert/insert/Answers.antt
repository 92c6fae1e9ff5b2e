use native.Mathlib.Omega.{arith}
use borrow.Author.Rules.{rules}
use Rattle.held.proofs.Putting.{put-fits, put-over, put-behind}
use Rattle.table.proofs.Laws.{is-long}
use Rattle.held.proofs.Laws.{count_small, placed}
use Rattle.held.proofs.insert.insert.Goals as goal

pub count-n-requires : goal.count-n-requires
count-n-requires c = search is-long

pub fill_at-requires : goal.fill_at-requires
fill_at-requires c = search (rules, put-fits, placed)

pub overflow_add-n : goal.overflow_add-n
overflow_add-n c = omega (arith, count_small c.args.table.now _ c.requires.table_value c.count-n.ensures)

pub put_u64-requires : goal.put_u64-requires
put_u64-requires c = omega (arith, is-long 1062 c.args.table.now c.requires.table_value)

pub returns-then-i-n : goal.returns-then-i-n
returns-then-i-n c = search (put-behind, placed)

pub returns-else-i-n : goal.returns-else-i-n
returns-else-i-n c = search (put-over, placed)
