use mathlib.Core.Path.{◌≡◌}
use Prim.Native.Nat.{◌+◌, ◌-◌, ◌≤◌}
use Rattle.wire.specs.Bytes.{part, less}
use Rattle.wire.proofs.bytes.less32.Given as goal

abbrev pub invariant-loop-k : goal.invariant-loop-k
invariant-loop-k l = (l.k ≤ 32) × (less (part l.a l.i 32) (part l.b l.j 32) ≡ less (part l.a (l.i + l.k) (32 - l.k)) (part l.b (l.j + l.k) (32 - l.k)))
