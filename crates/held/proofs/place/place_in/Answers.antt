use Rattle.std.proofs.Common.{rules}
use borrow.Author.Tests.{tests}
use Rattle.wire.proofs.Chains.{first-found}
use Rattle.table.proofs.Laws.{yields-rows}
use Rattle.held.proofs.Laws.{of_the_pair, pair-is, find-within}
use Rattle.held.proofs.place.place_in.Goals as goal

pub returns-clause-value : goal.returns-clause-value
returns-clause-value c =
    pair-is c.args.origin c.args.round c.args.table.now c.position.result
    (first-found (of_the_pair c.args.origin c.args.round) _ c.position.ensures.ran (yields-rows _ _ c.requires c.rows.ensures.rest c.rows.ensures.size) (λ x b q k. search (rules, tests)))

pub returns-clause-within : goal.returns-clause-within
returns-clause-within c =
    find-within c.args.table.now (of_the_pair c.args.origin c.args.round) c.position.result
    (first-found (of_the_pair c.args.origin c.args.round) _ c.position.ensures.ran (yields-rows _ _ c.requires c.rows.ensures.rest c.rows.ensures.size) (λ x b q k. search (rules, tests)))
