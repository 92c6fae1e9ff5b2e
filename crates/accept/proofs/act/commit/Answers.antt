use borrow.Author.Rules.{rules}
use Rattle.config.specs.Committee.{depth_of}
use Rattle.accept.proofs.Committing.{setup-reach, commit-ready, commit-low, commit-high, commit-opened, commit-fits, commit-done}
use Rattle.accept.proofs.act.commit.Goals as goal

pub depth-depth-requires : goal.depth-depth-requires
depth-depth-requires c = setup-reach _ _ _ _ c.requires.opening

pub serve-requires : goal.serve-requires
unfolding depth_of
serve-requires c = record { ready = commit-ready _ _ _ _ c.requires.opening c.find_leaders-k.new.walk c.args.sort.now c.find_leaders-k.new.link c.len-n.result c.depth-depth.result c.len-h.result c.find_leaders-k.result c.len-n.ensures c.depth-depth.ensures c.len-h.ensures (search rules) c.requires.sort_len (search rules) (rw c.len-h.ensures c.find_leaders-k.ensures); table_bound = commit-low _ _ _ _ c.requires.opening c.find_leaders-k.new.walk c.args.sort.now c.find_leaders-k.new.link c.len-n.result c.depth-depth.result c.len-h.result c.find_leaders-k.result c.len-n.ensures c.depth-depth.ensures c.len-h.ensures (search rules) c.requires.sort_len (search rules) (rw c.len-h.ensures c.find_leaders-k.ensures); h_in_bounds = commit-high _ _ _ _ c.requires.opening c.find_leaders-k.new.walk c.args.sort.now c.find_leaders-k.new.link c.len-n.result c.depth-depth.result c.len-h.result c.find_leaders-k.result c.len-n.ensures c.depth-depth.ensures c.len-h.ensures (search rules) c.requires.sort_len (search rules) (rw c.len-h.ensures c.find_leaders-k.ensures); opened = commit-opened _ _ _ _ c.requires.opening c.find_leaders-k.new.walk c.args.sort.now c.find_leaders-k.new.link c.len-n.result c.depth-depth.result c.len-h.result c.find_leaders-k.result c.len-n.ensures c.depth-depth.ensures c.len-h.ensures (search rules) c.requires.sort_len (search rules) (rw c.len-h.ensures c.find_leaders-k.ensures); table_in_bounds = commit-fits _ _ _ _ c.requires.opening c.find_leaders-k.new.walk c.args.sort.now c.find_leaders-k.new.link c.len-n.result c.depth-depth.result c.len-h.result c.find_leaders-k.result c.len-n.ensures c.depth-depth.ensures c.len-h.ensures (search rules) c.requires.sort_len (search rules) (rw c.len-h.ensures c.find_leaders-k.ensures) c.args.list.now c.requires.table_in_bounds }

pub returns : goal.returns
unfolding depth_of
returns c = commit-done _ _ _ _ c.find_leaders-k.new.link _ _ _ _ c.len-n.result c.depth-depth.result c.len-h.result c.find_leaders-k.result _ c.len-n.ensures c.depth-depth.ensures (rw c.len-h.ensures c.find_leaders-k.ensures) c.serve.ensures
