use Rattle.node.proofs.committee.tundrimela_quorum.Goals as goal

pub returns : goal.returns
returns c = cc
