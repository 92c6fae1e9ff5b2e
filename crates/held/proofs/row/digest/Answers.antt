use Rattle.std.proofs.lemmas.Option.{MatchOption-at_some}
use Rattle.held.specs.Rows.{digest_in}
use Rattle.wire.specs.Bytes.{part}
use Rattle.held.proofs.row.digest.Goals as goal

pub returns : goal.returns
unfolding digest_in part
returns c = let w = MatchOption-at_some _ _ _ c.unwrap.ensures c.as_array.ensures.cases in w.same
