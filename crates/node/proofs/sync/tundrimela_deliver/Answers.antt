use Rattle.node.proofs.sync.tundrimela_deliver.Goals as goal

pub returns : goal.returns
returns c = cc
