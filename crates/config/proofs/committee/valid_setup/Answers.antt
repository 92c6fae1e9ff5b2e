use Rattle.config.proofs.Laws.{setup-short, setup-deep, setup-last}
use Rattle.config.proofs.committee.valid_setup.Goals as goal

pub returns-then-setup-lt8 : goal.returns-then-setup-lt8
returns-then-setup-lt8 c = search setup-short

pub returns-then-depth-gt4294967295 : goal.returns-then-depth-gt4294967295
returns-then-depth-gt4294967295 c = search setup-deep

pub returns : goal.returns
returns c = search setup-last
