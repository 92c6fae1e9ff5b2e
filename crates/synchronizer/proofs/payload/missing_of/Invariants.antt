use mathlib.Core.Path.{◌≡◌}
use Rattle.messages.specs.Header.{payload_count}
use Rattle.synchronizer.specs.Payload.{pairs_of, unpaired}
use Rattle.synchronizer.proofs.Picking.{Picking}
use Rattle.synchronizer.proofs.payload.missing_of.Given as goal

abbrev pub invariant-loop-i : goal.invariant-loop-i
invariant-loop-i l = (l.n ≡ payload_count l.bytes) × Picking 36 (unpaired (pairs_of l.pairs)) l.bytes 1098 l.n l.initial.out l.out l.i l.m
