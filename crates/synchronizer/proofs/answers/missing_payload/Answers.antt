use mathlib.Core.Path.{refl, ap, ◌∙◌}
use lib.ListN.{length}
use Rattle.std.proofs.lemmas.Option.{MatchOption-at_some, MatchOption-at_none}
use Rattle.std.proofs.lemmas.Result.{err_from_is_err_and}
use Rattle.messages.proofs.Laws.{not-shaped}
use Rattle.synchronizer.proofs.Replies.{payload-own, payload-pairs, payload-header, payload-out, payload-done, few-batches}
use native.Mathlib.Omega.{arith}
use Rattle.synchronizer.proofs.answers.missing_payload.Goals as goal

pub returns-in_default : goal.returns-in_default
returns-in_default c = let f = MatchOption-at_none _ _ c.in_default.is c.as_array.ensures.cases in search payload-own

pub returns-then-pairs-ne0 : goal.returns-then-pairs-ne0
returns-then-pairs-ne0 c = let f = MatchOption-at_some _ _ _ c.in-Some.is c.as_array.ensures.cases in let l = f.long in search payload-pairs

pub returns-in_err-header : goal.returns-in_err-header
returns-in_err-header c =
    let f = MatchOption-at_some _ _ _ c.in-Some.is c.as_array.ensures.cases in
    let l = f.long in
    let p = err_from_is_err_and c.from_residual.result c.from_residual.ensures.1 in
    let o = c.in_err-header.ensures in
    let q = not-shaped _ o.ok.1 in
    rw (p.1, p.2, o.err) (search payload-header)

pub returns-then-out-ne2304 : goal.returns-then-out-ne2304
returns-then-out-ne2304 c =
    let f = MatchOption-at_some _ _ _ c.in-Some.is c.as_array.ensures.cases in
    let l = f.long in
    let s = c.in_ok-header.ensures.ok.0 refl in
    search payload-out

pub overflow_cast-result : goal.overflow_cast-result
overflow_cast-result c = omega (arith, few-batches _ _ _ _ _ _ c.in_ok-header.header.shape c.missing_payload.ensures)

pub returns : goal.returns
returns c =
    let f = MatchOption-at_some _ _ _ c.in-Some.is c.as_array.ensures.cases in
    let l = ap length f.same ∙ f.long in
    let s = c.in_ok-header.header.shape in
    rw (← f.same, ← c.in_ok-header.ensures.is) (search payload-done)
