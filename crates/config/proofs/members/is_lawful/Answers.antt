use Rattle.config.proofs.Laws.{lawful-poor, lawful-last}
use Rattle.config.proofs.members.is_lawful.Goals as goal

pub returns-then-stake_in-lt1 : goal.returns-then-stake_in-lt1
returns-then-stake_in-lt1 c = search lawful-poor

pub returns : goal.returns
returns c = search lawful-last
