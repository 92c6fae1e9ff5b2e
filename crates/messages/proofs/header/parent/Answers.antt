use mathlib.Core.Path.{ap, ◌∙◌}
use lib.ListN.{length}
use Rattle.std.proofs.lemmas.Result.{MatchResult-at_ok}
use Rattle.wire.specs.Items.{item_in}
use Rattle.wire.proofs.Laws.{length_part}
use Rattle.messages.proofs.header.parent.Goals as goal

pub unwrap-requires : goal.unwrap-requires
unfolding item_in
unwrap-requires c = c.try_into.ensures.0 (ap length c.item.ensures ∙ length_part _ _ _ c.requires)

pub returns : goal.returns
returns c = (MatchResult-at_ok _ _ _ c.unwrap.ensures c.try_into.ensures.1).same ∙ c.item.ensures
