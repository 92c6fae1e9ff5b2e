use borrow.Author.Rules.{rules}
use Rattle.accept.proofs.Shaping.{lent-state, lent-table, lent-long, lent-list, lent-walk, lent-sort, lent-link}
use Rattle.accept.proofs.shape.is_lent.Goals as goal

pub returns-then-state-n : goal.returns-then-state-n
returns-then-state-n c = search lent-state

pub returns-then-not-shape : goal.returns-then-not-shape
returns-then-not-shape c = search lent-table

pub overflow_sub-places : goal.overflow_sub-places
overflow_sub-places c = search (rules, lent-long)

pub returns-then-not-has_places : goal.returns-then-not-has_places
returns-then-not-has_places c = search lent-list

pub returns-then-not-has_places-2 : goal.returns-then-not-has_places-2
returns-then-not-has_places-2 c = search lent-walk

pub returns-then-not-has_places-3 : goal.returns-then-not-has_places-3
returns-then-not-has_places-3 c = search lent-sort

pub returns : goal.returns
returns c = search lent-link
