use borrow.Author.Rules.{rules}
use Rattle.leaders.proofs.Following.{marking-start, marking-below, marking-fits, marking-next, marking-done}
use Rattle.leaders.proofs.link.follow.Goals as goal

pub loop-i-init : goal.loop-i-init
loop-i-init c = search marking-start

pub mark_named-requires : goal.mark_named-requires
mark_named-requires c = search (rules, marking-below, marking-fits)

pub loop-i-preserved : goal.loop-i-preserved
loop-i-preserved c = search marking-next

pub returns : goal.returns
returns c = search marking-done
