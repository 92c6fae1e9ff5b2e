use Rattle.synchronizer.proofs.Picking.{put-few}
use Rattle.synchronizer.proofs.Picking.{put-not, put_one}
use native.Mathlib.Omega.{arith}
use Rattle.synchronizer.proofs.picks.put_if.Goals as goal

pub returns-then-not-wanted : goal.returns-then-not-wanted
returns-then-not-wanted c = search put-not

pub overflow_add-result : goal.overflow_add-result
overflow_add-result c = omega (arith, put-few c.args.size c.args.m c.args.out.now c.requires.le_size c.requires.size_in_bounds)

pub returns : goal.returns
returns c = search put_one
