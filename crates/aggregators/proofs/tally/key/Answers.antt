use Rattle.wire.specs.Bytes.{part}
use Rattle.wire.specs.Items.{key_of}
use borrow.Author.Rules.{rules}
use Rattle.aggregators.proofs.tally.key.Goals as goal

pub returns : goal.returns
unfolding key_of part
returns c = search rules
