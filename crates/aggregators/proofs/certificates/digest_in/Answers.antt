use Rattle.wire.specs.Bytes.{part}
use Rattle.aggregators.specs.Weight.{digest_of}
use borrow.Author.Rules.{rules}
use Rattle.aggregators.proofs.certificates.digest_in.Goals as goal

pub returns : goal.returns
unfolding digest_of part
returns c = search rules
