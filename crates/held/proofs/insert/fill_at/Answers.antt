use borrow.Author.Rules.{rules}
use Rattle.held.proofs.Putting.{lent_length, lent_same, lent_back}
use Rattle.held.proofs.insert.fill_at.Goals as goal

pub fill-requires : goal.fill-requires
fill-requires c = search (rules, lent_length)

pub shape_of-table : goal.shape_of-table
shape_of-table c = search lent_same

pub returns : goal.returns
returns c = search lent_back
