use Rattle.leaders.proofs.Scanning.{round-below, round-above, round-between, leads-or-not}
use Rattle.leaders.proofs.view.View.is_candidate.Goals as goal

pub returns-then-round-low : goal.returns-then-round-low
returns-then-round-low c = search round-below

pub returns-then-r-round : goal.returns-then-r-round
returns-then-r-round c = search round-above

pub returns-then-round-r : goal.returns-then-round-r
returns-then-round-r c = search round-between

pub returns : goal.returns
returns c = search leads-or-not
