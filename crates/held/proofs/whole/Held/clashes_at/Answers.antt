use Rattle.held.proofs.Laws.{clash-other, clash-same, lawful-shape}
use Rattle.held.proofs.whole.Held.clashes_at.Goals as goal

pub returns-then-not-same32 : goal.returns-then-not-same32
returns-then-not-same32 c = search (clash-other, lawful-shape)

pub returns : goal.returns
returns c = search (clash-same, lawful-shape)
