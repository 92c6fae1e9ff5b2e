use borrow.Author.Rules.{rules}
use Rattle.update.proofs.Laws.{clear-fits}
use Rattle.held.proofs.Laws.{lawful-shape}
use Rattle.table.proofs.Laws.{is-long}
use Rattle.sweep.proofs.Laws.{sweeping-start, sweeping-fits, sweeping-row, sweeping-next, sweeping-whole, sweeping-kept}
use Rattle.update.proofs.clear.clear.Goals as goal

pub count-k-requires : goal.count-k-requires
count-k-requires c = search (is-long, lawful-shape)

pub loop-i-init : goal.loop-i-init
loop-i-init c = search (sweeping-start, lawful-shape)

pub row-requires : goal.row-requires
row-requires c = search (sweeping-fits, lawful-shape)

pub stays-keep-requires : goal.stays-keep-requires
stays-keep-requires c = search (rules, sweeping-row, lawful-shape, clear-fits)

pub move_row-m-requires : goal.move_row-m-requires
move_row-m-requires c = search (rules, sweeping-fits, lawful-shape)

pub loop-i-preserved : goal.loop-i-preserved
loop-i-preserved c = search (sweeping-next, lawful-shape)

pub finish-requires : goal.finish-requires
finish-requires c = search (rules, sweeping-whole, lawful-shape)

pub returns : goal.returns
returns c = search (sweeping-kept, lawful-shape)
