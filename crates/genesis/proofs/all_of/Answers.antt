use Rattle.std.proofs.Common.{rules, arith}
use borrow.Author.Tests.{tests}
use mathlib.Core.Path.{sym, ◌∙◌}
use mathlib.Core.List.{List}
use Prim.Native.Nat.{ℕ}
use Rattle.std.proofs.lemmas.Iterator.{YieldsList-from_zip}
use Rattle.std.proofs.lemmas.Iterator.Search.{all_from_yields_List}
use Rattle.wire.specs.Items.{items}
use Rattle.wire.proofs.Chains.{calls-pairs, yields-items}
use Rattle.wire.proofs.Lists.{items-sized, length-items}
use Rattle.genesis.specs.Genesis.{belongs}
use Rattle.genesis.proofs.Laws.{paired-is}
use Rattle.genesis.proofs.all_of.Goals as goal

pub all-requires-clause-callable : goal.all-requires-clause-callable
all-requires-clause-callable c =
    let a = c.args in
    let ms = items 69 a.members.now 0 a.n in
    let rs = items 68 a.genesis.now 0 a.n in
    calls-pairs 69 68 ms rs
    (YieldsList-from_zip (yields-items 69 a.members.now 0 a.n (cc) (cc) (omega arith) (omega arith)) (yields-items 68 a.genesis.now 0 a.n (cc) (cc) (omega arith) (omega arith)))
    (items-sized 69 a.members.now 0 a.n (omega arith)) (items-sized 68 a.genesis.now 0 a.n (omega arith)) (λ x q k. search rules) (λ x l m. search (rules, tests))

pub returns : goal.returns
returns c =
    let a = c.args in
    all_from_yields_List (λ (p : List ℕ × List ℕ). belongs p.0 p.1) c.all.new.self _ _ c.all.ensures.ran
    (YieldsList-from_zip (yields-items 69 a.members.now 0 a.n (cc) (cc) (omega arith) (omega arith)) (yields-items 68 a.genesis.now 0 a.n (cc) (cc) (omega arith) (omega arith)))
    (λ x b q k. search (rules, tests))
    ∙ paired-is (items 69 a.members.now 0 a.n) (items 68 a.genesis.now 0 a.n) (length-items 69 a.members.now 0 a.n ∙ sym (length-items 68 a.genesis.now 0 a.n))
