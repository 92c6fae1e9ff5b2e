use Rattle.accept.proofs.Shaping.{places-over, places-enough}
use Rattle.accept.proofs.shape.has_places.Goals as goal

pub returns-then-room-size-ne0 : goal.returns-then-room-size-ne0
returns-then-room-size-ne0 c = search places-over

pub returns : goal.returns
returns c = search places-enough
