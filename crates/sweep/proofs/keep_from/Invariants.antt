use Rattle.sweep.proofs.Laws.{Sweeping}
use Rattle.sweep.specs.Kept.{from_round}
use Rattle.sweep.proofs.keep_from.Given as goal

abbrev pub invariant-loop-i : goal.invariant-loop-i
invariant-loop-i l = Sweeping l.size (from_round l.round) l.initial.table l.n l.table l.i l.m
