use Rattle.proposer.proofs.Outcomes.{parents-late, parents-ragged, parents-many, parents-dropped, parents-taken, parents-state}
use Rattle.proposer.proofs.events.on_parents.Goals as goal

pub returns-then-p-gt4294967294 : goal.returns-then-p-gt4294967294
returns-then-p-gt4294967294 c = search parents-late

pub returns-then-parents-ne0 : goal.returns-then-parents-ne0
returns-then-parents-ne0 c = search parents-ragged

pub returns-then-parents-gt32 : goal.returns-then-parents-gt32
returns-then-parents-gt32 c = search parents-many

pub returns-then-p-round : goal.returns-then-p-round
returns-then-p-round c = search parents-dropped

pub settle-requires-2 : goal.settle-requires-2
settle-requires-2 c = search parents-state

pub returns : goal.returns
returns c = search parents-taken
