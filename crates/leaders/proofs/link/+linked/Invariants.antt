-- the round difference falls
use Rattle.std.proofs.Common.{◌-◌}
use Rattle.leaders.proofs.link.+linked.Given as goal

abbrev pub decreases-linked : goal.decreases-linked
decreases-linked l = l.upper - l.lower
