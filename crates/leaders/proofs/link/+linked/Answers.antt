use borrow.Author.Rules.{rules}
use Rattle.leaders.proofs.Walking.{linked-here, linked-lower, walk-low, walk-falls, walk-whole, follow-size}
use Rattle.leaders.proofs.link.+linked.Goals as goal

pub returns-then-upper-lower : goal.returns-then-upper-lower
returns-then-upper-lower t c = search linked-here

pub linked-requires : goal.linked-requires
linked-requires t c =
    (search (rules, walk-falls), (search follow-size, (search walk-low, (search rules, search walk-whole))))

pub returns : goal.returns
returns t c = search linked-lower
