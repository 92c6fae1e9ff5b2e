use borrow.Author.Rules.{rules}
use Rattle.leaders.proofs.Supporting.{naming-other, naming-not, naming-yes, member_below}
use Rattle.leaders.proofs.view.View.stake_naming.Goals as goal

pub returns-then-round_at-round : goal.returns-then-round_at-round
returns-then-round_at-round c = search naming-other

pub returns-then-not-names : goal.returns-then-not-names
returns-then-not-names c = search naming-not

pub stake_at-requires : goal.stake_at-requires
stake_at-requires c = search (rules, member_below)

pub returns : goal.returns
returns c = search naming-yes
