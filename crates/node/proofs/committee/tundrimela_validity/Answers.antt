use Rattle.node.proofs.committee.tundrimela_validity.Goals as goal

pub returns : goal.returns
returns c = cc
