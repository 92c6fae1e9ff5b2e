use mathlib.Core.Path.{◌∙◌}
use Rattle.std.proofs.lemmas.Option.{MatchOption-at_some}
use Rattle.dag.proofs.Piling.{digest-long, chunk-there}
use Rattle.dag.proofs.pile.parent.Goals as goal

pub unwrap-requires : goal.unwrap-requires
unwrap-requires c = chunk-there _ _ _ c.as_array.ensures.cases (search digest-long)

pub returns : goal.returns
returns c = let w = MatchOption-at_some _ _ _ c.unwrap.ensures c.as_array.ensures.cases in w.same ∙ c.item.ensures
