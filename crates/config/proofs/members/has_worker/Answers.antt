use Rattle.std.proofs.Common.{rules, arith}
use borrow.Author.Tests.{tests}
use lib.Dec.{eqb}
use mathlib.Core.Path.{◌∙◌}
use Rattle.wire.specs.Bytes.{part, word}
use Rattle.wire.proofs.Chains.{any-found, yields-items}
use Rattle.config.proofs.Laws.{has-worker-is}
use Rattle.config.proofs.members.has_worker.Goals as goal

pub returns : goal.returns
returns c =
    let a = c.args in
    let n = c.worker_count in
    any-found (λ w. eqb (word (part w 0 4)) a.id) _ c.any.ensures.ran (yields-items 4 a.member.now 37 n.result c.items.ensures.rest c.items.ensures.size (omega arith) (omega arith)) (λ x b q k. search (rules, tests))
    ∙ has-worker-is a.id a.member.now n.result (omega arith) (omega arith) n.ensures
