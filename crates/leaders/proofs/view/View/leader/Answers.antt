use Rattle.leaders.proofs.Scanning.{leader-is}
use Rattle.leaders.proofs.view.View.leader.Goals as goal

pub returns-clause-value : goal.returns-clause-value
returns-clause-value c = search leader-is
