use Rattle.sweep.proofs.Laws.{sweeping-start, sweeping-fits, sweeping-reach, sweeping-big, sweeping-whole, sweeping-next, sweeping-kept, sweeping-went}
use Rattle.table.proofs.Laws.{is-long}
use borrow.Author.Rules.{rules}
use Rattle.sweep.proofs.keep_from.Goals as goal

pub count-n-requires : goal.count-n-requires
count-n-requires c = search is-long

pub loop-i-init : goal.loop-i-init
loop-i-init c = search sweeping-start

pub row-requires : goal.row-requires
row-requires c = search sweeping-fits

pub row_from-keep-requires : goal.row_from-keep-requires
row_from-keep-requires c = search sweeping-reach

pub move_row-m-requires : goal.move_row-m-requires
move_row-m-requires c = search (rules, sweeping-fits, sweeping-big)

pub loop-i-preserved : goal.loop-i-preserved
loop-i-preserved c = search sweeping-next

pub finish-requires : goal.finish-requires
finish-requires c = search (rules, sweeping-whole)

pub returns : goal.returns
returns c = search (sweeping-kept, sweeping-went)
