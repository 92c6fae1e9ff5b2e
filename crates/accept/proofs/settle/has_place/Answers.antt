use Rattle.held.proofs.Laws.{lawful-shape}
use Rattle.accept.proofs.Settling.{told-there, told-free}
use Rattle.accept.proofs.settle.has_place.Goals as goal

pub returns-then-is_some : goal.returns-then-is_some
returns-then-is_some c = search told-there

pub room-requires : goal.room-requires
room-requires c = search lawful-shape

pub returns : goal.returns
returns c = search told-free
