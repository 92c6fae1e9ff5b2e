use mathlib.Core.Path.{◌≡◌}
use mathlib.Core.List.{◌++◌}
use Prim.Native.Nat.{◌≤◌}
use lib.ListN.{length, take, drop}
use Rattle.wire.proofs.parts.copy_front.Given as goal

abbrev pub invariant-loop-k : goal.invariant-loop-k
invariant-loop-k l = (l.k ≤ length l.src) × ((l.dst ≡ take l.k l.src ++ drop l.k l.initial.dst) × (length l.dst ≡ length l.initial.dst))
