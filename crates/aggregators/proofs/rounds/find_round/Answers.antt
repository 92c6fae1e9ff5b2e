use Rattle.std.proofs.Common.{rules}
use borrow.Author.Tests.{tests}
use Rattle.wire.proofs.Chains.{first-found}
use Rattle.table.proofs.Laws.{yields-rows}
use Rattle.aggregators.proofs.rounds.find_round.Goals as goal

pub returns : goal.returns
returns c = first-found _ _ c.position.ensures.ran (yields-rows _ _ c.requires c.rows.ensures.rest c.rows.ensures.size) (λ x b q k. search (rules, tests))
