use borrow.Author.Rules.{rules}
use Rattle.config.proofs.Laws.{stranger, member-fits, member-reach, member}
use Rattle.config.proofs.committee.standing_of.Goals as goal

pub returns-in_err-place : goal.returns-in_err-place
returns-in_err-place c = let q = c.in_err-place.was in rw c.from_residual.ensures (search stranger)

pub item-requires : goal.item-requires
item-requires c = let q = c.in_ok-place.was in search member-fits

pub stake_in-requires : goal.stake_in-requires
stake_in-requires c = let q = c.in_ok-place.was in search member-reach

pub returns : goal.returns
returns c = let q = c.in_ok-place.was in search member
