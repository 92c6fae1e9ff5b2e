use Rattle.accept.proofs.Shaping.{parents-over, parents-many, parents-rise}
use Rattle.accept.proofs.shape.are_parents.Goals as goal

pub returns-then-parents-ne0 : goal.returns-then-parents-ne0
returns-then-parents-ne0 c = search parents-over

pub returns-then-k-gt32 : goal.returns-then-k-gt32
returns-then-k-gt32 c = search parents-many

pub returns : goal.returns
returns c = search parents-rise
