use mathlib.Core.Path.{sym, ◌∙◌}
use Rattle.messages.proofs.Laws.{vote-length}
use Rattle.messages.proofs.vote.Vote.new.Goals as goal

pub unwrap-requires : goal.unwrap-requires
unwrap-requires c = c.try_into.ensures.0 (vote-length _ (sym c.shape.ensures ∙ c.if-not-shape.false))
