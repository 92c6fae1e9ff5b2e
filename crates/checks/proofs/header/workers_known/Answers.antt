use Rattle.checks.proofs.Laws.{workers-stranger, author-fits, author-reach, author-few, workers-member}
use borrow.Author.Rules.{rules}
use Rattle.checks.proofs.header.workers_known.Goals as goal

pub returns-in_default : goal.returns-in_default
returns-in_default c = search workers-stranger

pub item-row-requires : goal.item-row-requires
item-row-requires c = search author-fits

pub has_workers-requires : goal.has_workers-requires
has_workers-requires c = search (rules, author-reach, author-few)

pub returns : goal.returns
returns c = search workers-member
