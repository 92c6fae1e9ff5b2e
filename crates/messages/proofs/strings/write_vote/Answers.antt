use Rattle.messages.proofs.Writing.{vote-written}
use Rattle.messages.proofs.strings.write_vote.Goals as goal

pub returns : goal.returns
returns c = search vote-written
