use mathlib.Core.Path.{refl}
use Rattle.std.proofs.Common.{rules, arith}
use borrow.Author.Tests.{tests}
use lib.ListN.{length}
use Rattle.std.proofs.lemmas.Iterator.{YieldsList-from_range}
use Rattle.std.proofs.lemmas.Iterator.Search.{any_from_yields_List}
use Rattle.held.proofs.Laws.{lawful-shape}
use Rattle.leaders.proofs.Linking.{has-any, has_at}
use Rattle.leaders.proofs.link.Marked.has_digest.Goals as goal

pub returns : goal.returns
returns c =
    has-any _ _ _ _ _ c.args.self.now.size (lawful-shape _ _ c.args.self.now.held.shape) c.told-digest
    (any_from_yields_List (has_at c.args.self.now.held.table.now c.args.self.now.marks.now c.args.digest.now c.args.round) _ _ _ c.any.ensures.ran (YieldsList-from_range 0 (length c.args.self.now.marks.now) (length c.args.self.now.marks.now) refl (omega arith)) (λ x b q k. search (rules, tests)))
