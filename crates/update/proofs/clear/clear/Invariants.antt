use Rattle.sweep.proofs.Laws.{Sweeping}
use Rattle.held.specs.Rows.{lasts_of}
use Rattle.update.specs.Update.{stays_row}
use Rattle.update.proofs.clear.clear.Given as goal

abbrev pub invariant-loop-i : goal.invariant-loop-i
invariant-loop-i l = Sweeping 1062 (stays_row l.depth (lasts_of l.state)) l.initial.table l.k l.table l.i l.m
