use Rattle.messages.proofs.Replies.{room-not, room-last}
use Rattle.messages.proofs.answers.has_room.Goals as goal

pub returns-then-out-at : goal.returns-then-out-at
returns-then-out-at c = search room-not

pub returns : goal.returns
returns c = search room-last
