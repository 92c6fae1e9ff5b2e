-- the upper round falls
use Rattle.leaders.proofs.link.+is_unbroken.Given as goal

abbrev pub decreases-is_unbroken : goal.decreases-is_unbroken
decreases-is_unbroken l = l.upper
