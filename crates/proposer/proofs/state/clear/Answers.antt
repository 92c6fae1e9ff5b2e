use Rattle.proposer.specs.State.{zeros}
use borrow.Author.Rules.{rules}
use Rattle.proposer.proofs.state.clear.Goals as goal

pub returns : goal.returns
unfolding zeros
returns c = search rules
