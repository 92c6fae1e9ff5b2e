use borrow.Author.Rules.{rules}
use Rattle.leaders.proofs.Supporting.{summing_start, summing-done, summing-below, summing-hit, summing-next}
use Rattle.leaders.proofs.view.View.is_supported.Goals as goal

pub loop-i-init : goal.loop-i-init
loop-i-init c = search summing_start

pub stake_naming-requires : goal.stake_naming-requires
stake_naming-requires c = search (rules, summing-below)

pub returns-then-need-sum : goal.returns-then-need-sum
returns-then-need-sum c = search summing-hit

pub loop-i-preserved : goal.loop-i-preserved
loop-i-preserved c = search summing-next

pub returns : goal.returns
returns c = search summing-done
