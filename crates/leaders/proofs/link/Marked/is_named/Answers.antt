use mathlib.Core.Path.{refl}
use Rattle.std.proofs.Common.{rules, arith}
use borrow.Author.Tests.{tests}
use lib.ListN.{length}
use Rattle.std.proofs.lemmas.Iterator.{YieldsList-from_range}
use Rattle.std.proofs.lemmas.Iterator.Search.{any_from_yields_List}
use Rattle.leaders.proofs.Linking.{named-any, named_at}
use Rattle.leaders.proofs.link.Marked.is_named.Goals as goal

pub returns : goal.returns
returns c =
    named-any _ _ _ _ _ c.args.self.now.size
    (any_from_yields_List (named_at c.args.self.now.held.table.now c.args.self.now.marks.now c.args.digest.now c.args.round) _ _ _ c.any.ensures.ran (YieldsList-from_range 0 (length c.args.self.now.marks.now) (length c.args.self.now.marks.now) refl (omega arith)) (λ x b q k. search (rules, tests)))
