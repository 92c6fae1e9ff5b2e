use Rattle.aggregators.proofs.Giving.{lent_fits, lent_length, lent-count, lent_same, lent_back}
use native.Mathlib.Omega.{arith}
use Rattle.aggregators.proofs.certificates.put_in_row.Goals as goal

pub overflow_mul-at : goal.overflow_mul-at
overflow_mul-at c = omega (arith, lent_fits c.args.counts.now c.args.i c.requires.counts_value c.requires.i_bound)

pub overflow_add-at : goal.overflow_add-at
overflow_add-at c = omega (arith, lent_fits c.args.counts.now c.args.i c.requires.counts_value c.requires.i_bound)

pub overflow_add-end : goal.overflow_add-end
overflow_add-end c = omega (arith, lent_fits c.args.counts.now c.args.i c.requires.counts_value c.requires.i_bound)

pub slice_bounds-put_pair-end : goal.slice_bounds-put_pair-end
slice_bounds-put_pair-end c = omega (arith, lent_fits c.args.counts.now c.args.i c.requires.counts_value c.requires.i_bound)

pub put_pair-requires : goal.put_pair-requires
put_pair-requires c = search (lent_length, lent-count)

pub shape_of-counts : goal.shape_of-counts
shape_of-counts c = search lent_same

pub returns : goal.returns
returns c = search lent_back
