use mathlib.Core.Path.{sym, ap, ◌∙◌}
use Rattle.std.proofs.lemmas.Result.{MatchResult-at_ok}
use Rattle.messages.specs.Header.{header_shape}
use Rattle.messages.proofs.Laws.{header-length}
use Rattle.messages.proofs.header.Header.new.Goals as goal

pub unwrap-requires : goal.unwrap-requires
unwrap-requires c = c.try_into.ensures.0 (header-length _ (sym c.shape.ensures ∙ c.if-not-shape.false))

pub invariant_of-result : goal.invariant_of-result
invariant_of-result c =
    record { shape = ap header_shape (MatchResult-at_ok _ _ _ c.unwrap.ensures c.try_into.ensures.1).same ∙ sym c.shape.ensures ∙ c.if-not-shape.false }
