use Rattle.std.proofs.Common.{rules, arith}
use borrow.Author.Tests.{tests}
use Rattle.wire.proofs.Chains.{all-passed, yields-all}
use Rattle.config.specs.Members.{members_of}
use Rattle.config.proofs.committee.all_lawful.Goals as goal

pub returns : goal.returns
unfolding members_of
returns c = all-passed _ _ c.all.ensures.ran (yields-all _ _ c.chunks_exact.ensures.rest c.chunks_exact.ensures.size (omega arith)) (λ x b q k. search (rules, tests))
