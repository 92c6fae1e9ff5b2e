use Rattle.node.proofs.committee.tundrimela_setup.Goals as goal

pub returns : goal.returns
returns c = cc
