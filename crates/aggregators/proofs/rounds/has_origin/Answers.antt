use Rattle.aggregators.proofs.Counting.{row-pairs, origin-is}
use borrow.Author.Rules.{rules}
use Rattle.aggregators.proofs.rounds.has_origin.Goals as goal

pub has_key-requires : goal.has_key-requires
has_key-requires c = search (rules, row-pairs)

pub returns : goal.returns
returns c = search origin-is
