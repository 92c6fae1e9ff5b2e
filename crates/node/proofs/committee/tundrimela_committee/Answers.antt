use Rattle.node.proofs.committee.tundrimela_committee.Goals as goal

pub returns : goal.returns
returns c = cc
