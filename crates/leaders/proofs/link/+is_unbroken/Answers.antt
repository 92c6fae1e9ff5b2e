use Rattle.leaders.proofs.Gaps.{whole-none, whole-ends, whole-on}
use Rattle.leaders.proofs.link.+is_unbroken.Goals as goal

pub returns-then-upper-low : goal.returns-then-upper-low
returns-then-upper-low t c = search whole-none

pub returns-then-not-has_round : goal.returns-then-not-has_round
returns-then-not-has_round t c = search whole-ends

pub returns : goal.returns
returns t c = search whole-on
