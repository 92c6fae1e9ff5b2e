use Rattle.config.specs.Committee.{leader_place}
use borrow.Author.Rules.{rules}
use Rattle.config.proofs.committee.leader_place.Goals as goal

pub returns : goal.returns
unfolding leader_place
returns c = search rules
