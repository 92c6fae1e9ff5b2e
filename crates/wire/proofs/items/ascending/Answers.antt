use Rattle.std.proofs.Common.{rules, arith}
use borrow.Author.Tests.{tests}
use lib.ListN.{drop}
use mathlib.Core.Path.{refl, ◌∙◌}
use mathlib.Core.List.{List}
use Prim.Native.Nat.{ℕ}
use Rattle.std.proofs.lemmas.Iterator.{YieldsList-from_zip}
use Rattle.std.proofs.lemmas.Iterator.Adapters.{YieldsList-from_skip}
use Rattle.std.proofs.lemmas.Iterator.Search.{all_from_yields_List}
use Rattle.wire.specs.Bytes.{part, less}
use Rattle.wire.specs.Items.{items}
use Rattle.wire.proofs.Chains.{rises-all, calls-pairs, sized-drop, yields-items}
use Rattle.wire.proofs.Lists.{items-sized}
use Rattle.wire.proofs.items.ascending.Goals as goal

pub all-requires-clause-callable : goal.all-requires-clause-callable
all-requires-clause-callable c =
    let a = c.args in
    let k = c.zip.result.b.n in
    let rs = items a.size a.list.now a.at a.n in
    let s = items-sized a.size a.list.now a.at a.n c.requires.size_in_bounds in
    calls-pairs a.size a.size rs (drop k rs)
    (YieldsList-from_zip (yields-items a.size a.list.now a.at a.n (cc) (cc) (omega arith) (omega arith)) (YieldsList-from_skip k (yields-items a.size a.list.now a.at a.n (cc) (cc) (omega arith) (omega arith)) refl))
    s (sized-drop a.size rs k s) (λ x q k. search rules) (λ x l m. search (rules, tests))

pub returns : goal.returns
returns c =
    let a = c.args in
    all_from_yields_List (λ (p : List ℕ × List ℕ). less (part p.0 0 32) (part p.1 0 32)) c.all.new.self _ _ c.all.ensures.ran
    (YieldsList-from_zip (yields-items a.size a.list.now a.at a.n (cc) (cc) (omega arith) (omega arith)) (YieldsList-from_skip 1 (yields-items a.size a.list.now a.at a.n (cc) (cc) (omega arith) (omega arith)) (cc)))
    (λ x b q k. search (rules, tests))
    ∙ rises-all (items a.size a.list.now a.at a.n)
