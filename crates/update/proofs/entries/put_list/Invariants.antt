use Rattle.update.proofs.Laws.{Entering}
use Rattle.update.proofs.entries.put_list.Given as goal

abbrev pub invariant-loop-i : goal.invariant-loop-i
invariant-loop-i l = Entering l.places.held.table.now l.places.room.now l.initial.list l.places.count l.at l.list l.i
