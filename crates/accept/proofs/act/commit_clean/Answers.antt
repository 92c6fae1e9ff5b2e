use borrow.Author.Rules.{rules}
use Rattle.accept.proofs.Committing.{zero-stays}
use Rattle.accept.proofs.act.commit_clean.Goals as goal

pub returns : goal.returns
returns c = record { commits = c.commit-m.ensures; walk_after = zero-stays c.args.walk.now c.commit-m.new.walk _ (search rules) c.zero.ensures; sort_after = zero-stays c.args.sort.now c.commit-m.new.sort _ (search rules) c.zero-2.ensures; link_after = zero-stays c.args.link.now c.commit-m.new.link _ (search rules) c.zero-3.ensures }
