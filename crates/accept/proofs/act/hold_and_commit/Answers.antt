use native.Mathlib.Omega.{arith}
use Rattle.held.specs.Rows.{cert_with}
use Rattle.held.proofs.Laws.{lawful-shape}
use Rattle.accept.proofs.Holding.{index-fits, u-long, u-few, u-walk, u-sort, u-link, u-list, u-used, u-opening, u-rooms, u-commits}
use Rattle.accept.proofs.act.hold_and_commit.Goals as goal

pub overflow_cast-origin : goal.overflow_cast-origin
overflow_cast-origin c = omega (arith, index-fits _ _ _ _ _ _ _ _ _ _ _ c.requires.given)

pub insert-requires : goal.insert-requires
unfolding cert_with
insert-requires c = let g = c.requires.given in
    record { table_value = lawful-shape _ _ g.shape; table_value_2 = c.requires.opens.place; parents_len = g.whole; parents_len_bound = g.few }

pub count-w-requires : goal.count-w-requires
unfolding cert_with
count-w-requires c = u-long _ _ _ _ _ _ _ _ _ _ _ c.requires.given (omega arith) c.requires.opens.place _ c.insert.ensures

pub overflow_mul-w : goal.overflow_mul-w
unfolding cert_with
overflow_mul-w c = let e = c.count-w.ensures in
    let f = u-few _ _ _ _ _ _ _ _ _ _ _ c.requires.given (omega arith) c.requires.opens.place _ c.insert.ensures in
    omega arith

pub commit_with-requires : goal.commit_with-requires
unfolding cert_with
commit_with-requires c = record { opening = u-opening _ _ _ _ _ _ _ _ _ _ _ c.requires.given (omega arith) c.requires.opens.place _ c.insert.ensures c.requires.opens; table_in_bounds = u-list _ _ _ _ _ _ _ _ _ _ _ c.requires.given (omega arith) c.requires.opens.place _ c.insert.ensures; w_value = u-used _ _ _ _ _ _ _ _ _ _ _ c.requires.given (omega arith) c.requires.opens.place _ c.insert.ensures _ c.count-w.ensures; w_in_bounds = u-walk _ _ _ _ _ _ _ _ _ _ _ c.requires.given (omega arith) c.requires.opens.place _ c.insert.ensures _ c.count-w.ensures; w_in_bounds_2 = u-sort _ _ _ _ _ _ _ _ _ _ _ c.requires.given (omega arith) c.requires.opens.place _ c.insert.ensures _ c.count-w.ensures; w_in_bounds_3 = u-link _ _ _ _ _ _ _ _ _ _ _ c.requires.given (omega arith) c.requires.opens.place _ c.insert.ensures _ c.count-w.ensures }

pub returns : goal.returns
unfolding cert_with
returns c = let e = c.commit_with.ensures in
    record { commits = u-commits _ _ _ _ _ _ _ _ _ _ _ c.requires.given (omega arith) c.requires.opens.place _ c.insert.ensures _ _ _ _ e.commits; rooms = u-rooms _ _ _ _ _ _ _ _ _ _ _ c.requires.given (omega arith) c.requires.opens.place _ c.insert.ensures _ _ _ _ c.count-w.ensures e.walk_after e.sort_after e.link_after }
