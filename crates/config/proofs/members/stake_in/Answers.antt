use Rattle.config.specs.Members.{stake_in}
use borrow.Author.Rules.{rules}
use Rattle.config.proofs.members.stake_in.Goals as goal

pub returns : goal.returns
unfolding stake_in
returns c = search rules
