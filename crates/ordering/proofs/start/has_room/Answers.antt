use Rattle.ordering.proofs.Beginning.{room-short, room-over, room-last}
use Rattle.ordering.proofs.start.has_room.Goals as goal

pub returns-then-table-lt8 : goal.returns-then-table-lt8
returns-then-table-lt8 c = search room-short

pub returns-then-body-ne0 : goal.returns-then-body-ne0
returns-then-body-ne0 c = search room-over

pub returns : goal.returns
returns c = search room-last
