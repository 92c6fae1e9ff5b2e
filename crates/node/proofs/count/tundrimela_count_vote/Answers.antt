use Rattle.node.proofs.Laws.{count-vote}
use Rattle.node.proofs.count.tundrimela_count_vote.Goals as goal

pub returns : goal.returns
returns c = search count-vote
