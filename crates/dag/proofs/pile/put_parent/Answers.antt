use borrow.Author.Rules.{rules}
use Rattle.held.proofs.Laws.{some-place, no-place, place-within}
use Rattle.dag.proofs.Piling.{parent-none, parent-last, parent-open}
use Rattle.dag.proofs.pile.put_parent.Goals as goal

pub returns-in_default : goal.returns-in_default
returns-in_default c = search (parent-none, no-place)

pub put_new-requires : goal.put_new-requires
put_new-requires c = search (rules, place-within)

pub is_last-requires : goal.is_last-requires
is_last-requires c = search (rules, place-within)

pub returns-then-is_last : goal.returns-then-is_last
returns-then-is_last c = search (parent-last, some-place, place-within)

pub returns : goal.returns
returns c = search (parent-open, some-place, place-within)
