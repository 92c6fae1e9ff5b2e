use Rattle.aggregators.proofs.Weights.{weighing-start, weighing-fits, weighing-reach, weighing-next, weighing-done}
use borrow.Author.Rules.{rules}
use Rattle.aggregators.proofs.tally.count_keys.Goals as goal

pub loop-i-init : goal.loop-i-init
loop-i-init c = search (rules, weighing-start)

pub item-requires : goal.item-requires
item-requires c = search weighing-fits

pub key-key-requires : goal.key-key-requires
key-key-requires c = search weighing-reach

pub loop-i-preserved : goal.loop-i-preserved
loop-i-preserved c = search weighing-next

pub returns : goal.returns
returns c = search weighing-done
