use borrow.Author.Rules.{rules}
use Rattle.room.proofs.Laws.{number_put}
use Rattle.room.proofs.put.Goals as goal

pub returns : goal.returns
returns c = search (rules, number_put)
