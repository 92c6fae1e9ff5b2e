use borrow.Author.Rules.{rules}
use Rattle.wire.specs.Bytes.{part}
use Rattle.genesis.specs.Genesis.{record_digest}
use Rattle.genesis.proofs.digest.Goals as goal

pub returns : goal.returns
unfolding record_digest part
returns c = search rules
