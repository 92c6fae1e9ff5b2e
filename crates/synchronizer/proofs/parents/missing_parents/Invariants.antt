use mathlib.Core.Path.{◌≡◌}
use Rattle.table.specs.Rows.{rows_of}
use Rattle.genesis.specs.Genesis.{records_of}
use Rattle.messages.specs.Header.{parent_count}
use Rattle.synchronizer.specs.Parents.{lacks}
use Rattle.synchronizer.proofs.Picking.{Picking}
use Rattle.synchronizer.proofs.parents.missing_parents.Given as goal

abbrev pub invariant-loop-i : goal.invariant-loop-i
invariant-loop-i l = (l.n ≡ parent_count l.bytes) × Picking 32 (lacks (records_of l.genesis) (rows_of 68 l.known.table.now)) l.bytes 74 l.n l.initial.out l.out l.i l.m
