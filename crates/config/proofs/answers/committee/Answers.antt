use Rattle.std.proofs.lemmas.Result.{err_from_is_err_and}
use Rattle.config.proofs.Replies.{bad_members, good-members, done}
use Rattle.config.proofs.Laws.{valid}
use native.Mathlib.Omega.{arith}
use Rattle.config.specs.Answers.{committee_answer}
use Rattle.config.proofs.answers.committee.Goals as goal

pub returns-in_err-new : goal.returns-in_err-new
unfolding committee_answer
returns-in_err-new c =
    let p = err_from_is_err_and c.from_residual.result c.from_residual.ensures.1 in
    let e = c.in_err-new.ensures in
    rw (p.1, p.2) (bad_members _ _ _ e.refused e.outside)

pub overflow_cast-result : goal.overflow_cast-result
overflow_cast-result c = omega (arith, valid c.in_ok-new.field-0.members.now c.in_ok-new.field-0.valid, c.len.ensures)

pub returns : goal.returns
unfolding committee_answer
returns c = let m = c.in_ok-new.ensures.members in let v = c.in_ok-new.field-0.valid in rw (← m) (good-members _ _ _ v (done _ _ c.len.ensures))
