use lib.ListN.{length}
use Rattle.wire.proofs.Laws.{part-all}
use Rattle.wire.specs.Items.{has_part}
use mathlib.Core.Path.{refl, ◌∙◌}
use Rattle.wire.proofs.items.has.Goals as goal

pub returns : goal.returns
unfolding has_part
returns c = c.same.ensures ∙ rw (part-all c.args.what.now (length c.args.what.now) refl)
