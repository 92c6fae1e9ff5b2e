use borrow.Author.Rules.{rules}
use Rattle.update.proofs.Laws.{raising-start, raising-done, raising-next}
use Rattle.update.proofs.raise.raise_all.Goals as goal

pub loop-i-init : goal.loop-i-init
loop-i-init c = search raising-start

pub raise_one-requires : goal.raise_one-requires
raise_one-requires c = search rules

pub loop-i-preserved : goal.loop-i-preserved
loop-i-preserved c = search raising-next

pub returns : goal.returns
returns c = search raising-done
