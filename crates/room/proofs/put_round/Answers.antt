use borrow.Author.Rules.{rules}
use Rattle.room.proofs.Laws.{round-put}
use Rattle.room.proofs.put_round.Goals as goal

pub returns : goal.returns
returns c = search (rules, round-put)
