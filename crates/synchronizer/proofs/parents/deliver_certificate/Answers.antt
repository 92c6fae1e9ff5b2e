use Rattle.std.proofs.Common.{rules, arith}
use borrow.Author.Tests.{tests}
use Rattle.wire.proofs.Chains.{all-passed, yields-items}
use Rattle.synchronizer.specs.Parents.{has}
use Rattle.synchronizer.proofs.Laws.{parents-fit, deliver-is}
use Rattle.synchronizer.proofs.parents.deliver_certificate.Goals as goal

pub items-requires-clause-in_bounds : goal.items-requires-clause-in_bounds
items-requires-clause-in_bounds c = search parents-fit

pub returns : goal.returns
unfolding has
returns c = deliver-is _ _ _ _ _ c.parent_count-n.ensures (all-passed _ _ c.all.ensures.ran (yields-items _ _ _ _ c.items.ensures.rest c.items.ensures.size (omega arith) (search parents-fit)) (λ x b q k. search (rules, tests)))
