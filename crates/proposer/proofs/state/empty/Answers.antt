use Rattle.proposer.specs.State.{emptied}
use borrow.Author.Rules.{rules}
use Rattle.proposer.proofs.state.empty.Goals as goal

pub returns : goal.returns
unfolding emptied
returns c = search rules
