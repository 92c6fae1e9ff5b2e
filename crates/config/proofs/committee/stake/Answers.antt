use Rattle.config.proofs.Laws.{stake-none, stake-some}
use Rattle.config.proofs.committee.stake.Goals as goal

pub returns-in-None : goal.returns-in-None
returns-in-None c = search stake-none

pub returns-in-Some : goal.returns-in-Some
returns-in-Some c = search stake-some
