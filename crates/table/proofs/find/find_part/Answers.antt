use Rattle.table.proofs.Laws.{is-long, is-big, rows_fit, rows-first}
use borrow.Author.Rules.{rules}
use Rattle.table.proofs.find.find_part.Goals as goal

pub count-n-requires : goal.count-n-requires
count-n-requires c = search is-long

pub find-requires : goal.find-requires
find-requires c = search (rules, rows_fit, is-big)

pub returns : goal.returns
returns c = search rows-first
