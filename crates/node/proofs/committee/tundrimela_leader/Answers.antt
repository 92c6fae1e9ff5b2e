use Rattle.node.proofs.committee.tundrimela_leader.Goals as goal

pub returns : goal.returns
returns c = cc
