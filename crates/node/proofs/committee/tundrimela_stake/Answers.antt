use Rattle.node.proofs.committee.tundrimela_stake.Goals as goal

pub returns : goal.returns
returns c = cc
