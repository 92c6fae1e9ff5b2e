use Rattle.std.proofs.lemmas.Result.{err_from_is_err_and}
use Rattle.config.proofs.Replies.{bad_members, good-members, bad_shape, good-shape, done}
use borrow.Author.Tests.{eq-eqb, ne_eqb}
use mathlib.Core.Path.{ap, ◌∙◌}
use lib.ListN.{length}
use Prim.Native.Nat.{ℕ}
use mathlib.Core.List.{List}
use Rattle.config.specs.Answers.{stake_answer}
use Rattle.config.proofs.answers.stake.Goals as goal

pub returns-in_err-committee : goal.returns-in_err-committee
unfolding stake_answer
returns-in_err-committee c =
    let p = err_from_is_err_and c.from_residual.result c.from_residual.ensures.1 in
    let e = c.in_err-committee.ensures in
    rw (p.1, p.2) (bad_members _ _ _ e.refused e.outside)

pub returns-in_err-key : goal.returns-in_err-key
unfolding stake_answer
returns-in_err-key c =
    let p = err_from_is_err_and c.from_residual-in_err-key.result c.from_residual-in_err-key.ensures.1 in
    let e = c.in_err-key.ensures in
    let m = c.in_ok-committee.ensures.members in
    let v = c.in_ok-committee.committee.valid in
    rw (p.1, p.2, ← m) (good-members _ _ _ v (bad_shape _ _ _ e.refused (ne_eqb _ _ e.outside)))

pub returns : goal.returns
unfolding stake_answer
returns c =
    let m = c.in_ok-committee.ensures.members in
    let v = c.in_ok-committee.committee.valid in
    let k = c.in_ok-key.ensures.key in
    let l = rw (← k) at c.in_ok-key.ensures.inside in
    rw (← m, ← k) (search (good-members, good-shape, eq-eqb, done))
