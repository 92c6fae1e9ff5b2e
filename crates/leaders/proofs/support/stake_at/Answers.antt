use borrow.Author.Rules.{rules}
use Rattle.leaders.proofs.Agreeing.{member-fits, member-reach, member-stake}
use Rattle.leaders.proofs.support.stake_at.Goals as goal

pub item-requires : goal.item-requires
item-requires c = search (rules, member-fits)

pub stake_in-requires : goal.stake_in-requires
stake_in-requires c = search (rules, member-reach)

pub returns : goal.returns
returns c = search member-stake
