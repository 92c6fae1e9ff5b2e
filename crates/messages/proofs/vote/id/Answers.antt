use Rattle.std.proofs.lemmas.Result.{MatchResult-at_ok}
use Rattle.wire.specs.Bytes.{part}
use Rattle.messages.specs.Vote.{vote_id}
use Rattle.messages.proofs.vote.id.Goals as goal

pub returns : goal.returns
unfolding vote_id part
returns c = (MatchResult-at_ok _ _ _ c.unwrap.ensures c.try_into.ensures.1).same
