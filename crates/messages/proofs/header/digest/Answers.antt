use Rattle.std.proofs.lemmas.Result.{MatchResult-at_ok}
use Rattle.wire.specs.Bytes.{part}
use Rattle.messages.specs.Header.{digest_in}
use Rattle.messages.proofs.header.digest.Goals as goal

pub returns : goal.returns
unfolding digest_in part
returns c = (MatchResult-at_ok _ _ _ c.unwrap.ensures c.try_into.ensures.1).same
