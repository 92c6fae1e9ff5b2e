use mathlib.Core.Path.{ap, ◌∙◌}
use lib.ListN.{length}
use Rattle.std.proofs.lemmas.Option.{MatchOption-at_some, MatchOption-at_none}
use Rattle.messages.proofs.Laws.{certificate-long, certificate-header, certificate-last}
use Rattle.messages.proofs.certificate.shape.Goals as goal

pub returns-in_default : goal.returns-in_default
returns-in_default c = certificate-long _ (MatchOption-at_none _ _ c.in_default.is c.as_array.ensures.cases)

pub returns-then-not-shape : goal.returns-then-not-shape
returns-then-not-shape c = let f = MatchOption-at_some _ _ _ c.in-Some.is c.as_array.ensures.cases in rw (← f.same) (search certificate-header)

pub returns : goal.returns
returns c = let f = MatchOption-at_some _ _ _ c.in-Some.is c.as_array.ensures.cases in let l = ap length f.same ∙ f.long in rw (← f.same) (search certificate-last)
