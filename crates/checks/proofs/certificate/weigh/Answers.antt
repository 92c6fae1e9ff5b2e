use Rattle.checks.proofs.Votes.{weighing-start, weighing-fits, weighing-before, weighing-whole, weighing-reused, weighing-unknown, weighing-next, weighing-done}
use borrow.Author.Rules.{rules}
use Rattle.checks.proofs.certificate.weigh.Goals as goal

pub loop-i-init : goal.loop-i-init
loop-i-init c = search (rules, weighing-start)

pub voter-voter-requires : goal.voter-voter-requires
voter-voter-requires c = search weighing-fits

pub find-requires : goal.find-requires
find-requires c = search (rules, weighing-before, weighing-whole)

pub returns-in_default : goal.returns-in_default
returns-in_default c = search weighing-reused

pub returns-then-rights-eq0 : goal.returns-then-rights-eq0
returns-then-rights-eq0 c = search weighing-unknown

pub loop-i-preserved : goal.loop-i-preserved
loop-i-preserved c = search (rules, weighing-next)

pub returns : goal.returns
returns c = search weighing-done
