use Rattle.std.proofs.Common.{rules, arith}
use borrow.Author.Tests.{tests}
use mathlib.Core.Path.{refl, ◌∙◌}
use Rattle.std.proofs.lemmas.Iterator.{YieldsList-from_range}
use Rattle.std.proofs.lemmas.Iterator.Search.{all_from_yields_List}
use Rattle.genesis.proofs.Laws.{alone, alone-all}
use Rattle.genesis.proofs.all_different.Goals as goal

pub returns : goal.returns
returns c =
    let a = c.args in
    all_from_yields_List (alone a.genesis.now a.n) c.all.new.self _ _ c.all.ensures.ran (YieldsList-from_range 0 a.n a.n refl (omega arith)) (λ x b q k. search (rules, tests))
    ∙ alone-all a.genesis.now a.n c.requires
