use borrow.Author.Rules.{rules}
use Rattle.held.proofs.Laws.{find-is, find-within, digest-fits, lawful-shape}
use Rattle.held.proofs.whole.Held.find.Goals as goal

pub find_round_part-requires : goal.find_round_part-requires
find_round_part-requires c = search (rules, digest-fits, lawful-shape)

pub returns-clause-value : goal.returns-clause-value
returns-clause-value c = search find-is

pub returns-clause-within : goal.returns-clause-within
returns-clause-within c = search find-within
