use Rattle.node.proofs.verdicts.tundrimela_header_check.Goals as goal

pub returns : goal.returns
returns c = cc
