use Prim.Native.Nat.{◌*◌, ◌≤◌}
use mathlib.Core.Path.{◌≡◌}
use Rattle.config.specs.Members.{members_of}
use Rattle.messages.specs.Certificate.{vote_count}
use Rattle.checks.proofs.Votes.{Weighing}
use Rattle.checks.proofs.certificate.weigh.Given as goal

abbrev pub invariant-loop-i : goal.invariant-loop-i
invariant-loop-i l = (l.n ≡ vote_count l.certificate) × ((l.weight ≤ 4294967295 * l.i) × Weighing (members_of l.members) l.certificate l.n l.weight l.i)
