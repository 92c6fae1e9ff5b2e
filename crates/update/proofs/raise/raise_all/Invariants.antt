use Rattle.update.proofs.Laws.{Raising}
use Rattle.update.proofs.raise.raise_all.Given as goal

abbrev pub invariant-loop-i : goal.invariant-loop-i
invariant-loop-i l = Raising l.places.held.table.now l.places.room.now l.initial.state l.places.held.members l.places.count l.state l.i
