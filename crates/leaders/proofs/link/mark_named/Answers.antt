use Rattle.leaders.proofs.Following.{mark-other, mark-not, mark-yes}
use Rattle.leaders.proofs.link.mark_named.Goals as goal

pub returns-then-round_at-upper : goal.returns-then-round_at-upper
returns-then-round_at-upper c = search mark-other

pub returns-then-not-is_named : goal.returns-then-not-is_named
returns-then-not-is_named c = search mark-not

pub returns : goal.returns
returns c = search mark-yes
