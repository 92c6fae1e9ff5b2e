use Rattle.genesis.proofs.Laws.{wrong-length, not-paired, last-test}
use Rattle.genesis.proofs.valid_genesis.Goals as goal

pub returns-then-genesis-n : goal.returns-then-genesis-n
returns-then-genesis-n c = search wrong-length

pub returns-then-not-all_of : goal.returns-then-not-all_of
returns-then-not-all_of c = search not-paired

pub returns : goal.returns
returns c = search last-test
