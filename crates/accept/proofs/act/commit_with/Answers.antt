use Rattle.accept.proofs.Committing.{part-size, part-zero}
use Rattle.accept.proofs.act.commit_with.Goals as goal

pub commit_clean-requires : goal.commit_clean-requires
commit_clean-requires c = let p = c.requires in
    let e = p.w_value in
    record { opening = p.opening; table_in_bounds = p.table_in_bounds; walk_len = part-size _ _ p.w_in_bounds _ e; sort_len = part-size _ _ p.w_in_bounds_2 _ e; link_len = part-size _ _ p.w_in_bounds_3 _ e }

pub returns : goal.returns
returns c = let p = c.requires in
    let e = c.commit_clean.ensures in
    record { commits = e.commits; walk_after = part-zero _ _ p.w_in_bounds _ e.walk_after; sort_after = part-zero _ _ p.w_in_bounds_2 _ e.sort_after; link_after = part-zero _ _ p.w_in_bounds_3 _ e.link_after }
