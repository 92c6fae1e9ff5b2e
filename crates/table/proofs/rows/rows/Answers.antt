use Rattle.table.proofs.Laws.{is-long, is-big, rows_fit}
use borrow.Author.Rules.{rules}
use Rattle.table.proofs.rows.rows.Goals as goal

pub count-requires : goal.count-requires
count-requires c = search is-long

pub items-requires : goal.items-requires
items-requires c = search (rules, rows_fit, is-big)
