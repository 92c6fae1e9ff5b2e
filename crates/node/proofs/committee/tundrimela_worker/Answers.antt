use Rattle.node.proofs.committee.tundrimela_worker.Goals as goal

pub returns : goal.returns
returns c = cc
