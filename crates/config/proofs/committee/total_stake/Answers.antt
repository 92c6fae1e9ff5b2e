use Rattle.std.proofs.Common.{rules, arith}
use borrow.Author.Tests.{tests}
use Rattle.std.proofs.lemmas.Iterator.Adapters.{fits_from_length, at_most_from_yields_List}
use Rattle.wire.proofs.Chains.{sum-found, yields-all, yields-numbers}
use Rattle.wire.proofs.Lists.{length-items}
use Rattle.config.specs.Members.{members_of, stake_in}
use Rattle.config.specs.Committee.{total}
use Rattle.config.proofs.committee.total_stake.Goals as goal

pub sum-requires-clause-fits : goal.sum-requires-clause-fits
sum-requires-clause-fits c = fits_from_length _ _ 32 _ (at_most_from_yields_List (yields-all 69 c.args.members.now (cc) (cc) (omega arith)) (rw length-items (omega arith))) c.map.ensures.closure (omega arith) (λ x r q k. search (rules, tests))

pub returns : goal.returns
unfolding total members_of
returns c = sum-found stake_in _ c.sum.ensures.ran (yields-numbers stake_in c.map.ensures.source c.map.ensures.closure (yields-all _ _ c.chunks_exact.ensures.rest c.chunks_exact.ensures.size (omega arith)) (λ x b q k. search (rules, tests)))
