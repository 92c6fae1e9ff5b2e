use Rattle.std.proofs.Common.{rules}
use borrow.Author.Tests.{tests}
use Rattle.wire.proofs.Chains.{any-found}
use Rattle.table.proofs.Laws.{yields-rows}
use Rattle.held.proofs.Laws.{of_the_round, rounds-are}
use Rattle.held.proofs.place.has_round.Goals as goal

pub returns : goal.returns
returns c = rounds-are c.args.table.now c.args.round c.any.result (any-found (of_the_round c.args.round) _ c.any.ensures.ran (yields-rows _ _ c.requires c.rows.ensures.rest c.rows.ensures.size) (λ x b q k. search (rules, tests)))
