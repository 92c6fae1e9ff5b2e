use mathlib.Core.Path.{◌∙◌}
use lib.ListN.{length-set}
use Rattle.aggregators.proofs.Giving.{pair_put}
use Rattle.aggregators.proofs.certificates.put_pair.Goals as goal

pub shape_of-row : goal.shape_of-row
shape_of-row c = simp length-set (c.put_bytes-2.auto.dst ∙ c.put_bytes.auto.dst)

pub returns : goal.returns
returns c = search pair_put
