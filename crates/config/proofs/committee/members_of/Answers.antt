use Prim.Native.Nat.{◌-◌}
use lib.ListN.{length, drop, length-drop}
use lib.Seq.{take_all}
use native.Mathlib.Omega.{arith}
use Rattle.config.proofs.committee.members_of.Goals as goal

pub returns : goal.returns
returns c = let s = c.args.setup.now in
    take_all (length s - 8) (drop 8 s) (simp length-drop (omega arith))
