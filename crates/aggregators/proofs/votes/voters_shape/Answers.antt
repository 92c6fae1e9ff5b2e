use Rattle.aggregators.proofs.Voting.{shape-length, shape-count}
use Rattle.aggregators.proofs.votes.voters_shape.Goals as goal

pub returns-then-voters-ne-VOTERS : goal.returns-then-voters-ne-VOTERS
returns-then-voters-ne-VOTERS c = search shape-length

pub returns : goal.returns
returns c = search shape-count
