use Rattle.std.proofs.Common.{rules, arith}
use borrow.Author.Tests.{tests}
use Rattle.wire.proofs.Chains.{all-passed, yields-items}
use Rattle.checks.proofs.Laws.{payload-fits, workers-are}
use Rattle.checks.proofs.header.has_workers.Goals as goal

pub items-requires-clause-in_bounds : goal.items-requires-clause-in_bounds
items-requires-clause-in_bounds c = search payload-fits

pub returns : goal.returns
returns c =
    workers-are _ _ _ _ c.payload_count-n.ensures
    (all-passed _ _ c.all.ensures.ran (yields-items _ _ _ _ c.items.ensures.rest c.items.ensures.size (omega arith) (search payload-fits)) (λ x b q k. search (rules, tests)))
