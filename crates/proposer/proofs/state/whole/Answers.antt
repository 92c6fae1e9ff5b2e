use Rattle.std.proofs.lemmas.Result.{MatchResult-at_ok}
use Rattle.proposer.proofs.state.whole.Goals as goal

pub unwrap-requires : goal.unwrap-requires
unwrap-requires c = c.try_into.ensures.0 c.requires

pub returns : goal.returns
returns c = (MatchResult-at_ok _ _ _ c.unwrap.ensures c.try_into.ensures.1).same
