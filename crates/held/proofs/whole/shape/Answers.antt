use borrow.Author.Rules.{rules}
use Rattle.held.proofs.Laws.{shape-not, shape-yes, shape-long, shape-few, shape-rows}
use Rattle.held.proofs.whole.shape.Goals as goal

pub returns-then-not-shape : goal.returns-then-not-shape
returns-then-not-shape c = search shape-not

pub overflow_sub-table : goal.overflow_sub-table
overflow_sub-table c = search (rules, shape-long)

pub returns-then-table-n : goal.returns-then-table-n
returns-then-table-n c = search shape-few

pub all_lawful-requires : goal.all_lawful-requires
all_lawful-requires c = search shape-yes

pub returns : goal.returns
returns c = search shape-rows
