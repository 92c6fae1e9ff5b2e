use mathlib.Core.Path.{refl}
use Rattle.std.proofs.Common.{rules, arith}
use borrow.Author.Tests.{tests}
use Rattle.std.proofs.lemmas.Iterator.{YieldsList-from_range}
use Rattle.std.proofs.lemmas.Iterator.Search.{any_from_yields_List}
use Rattle.held.proofs.Laws.{clashing_at, clash-is}
use Rattle.held.proofs.whole.Held.clashes.Goals as goal

pub returns : goal.returns
returns c =
    clash-is c.args.self.now.table.now _ c.len.result c.any.result c.len.ensures
    (any_from_yields_List (clashing_at c.args.self.now.table.now c.args.origin c.args.round c.args.digest.now) _ _ _ c.any.ensures.ran (YieldsList-from_range 0 c.len.result c.len.result refl (omega arith)) (λ x b q k. search (rules, tests)))
