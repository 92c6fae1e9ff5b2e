use Rattle.leaders.proofs.Scanning.{round-there, round-absent}
use Rattle.leaders.proofs.view.View.candidate_round.Goals as goal

pub returns-then-not-is_candidate : goal.returns-then-not-is_candidate
returns-then-not-is_candidate c = search round-absent

pub returns : goal.returns
returns c = search round-there
