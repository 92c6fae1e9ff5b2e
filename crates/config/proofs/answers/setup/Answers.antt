use Rattle.std.proofs.lemmas.Result.{err_from_is_err_and}
use Rattle.config.proofs.Replies.{setup_bad, setup-good, setup-few}
use native.Mathlib.Omega.{arith}
use Rattle.config.proofs.answers.setup.Goals as goal

pub returns-in_err-new : goal.returns-in_err-new
returns-in_err-new c =
    let p = err_from_is_err_and c.from_residual.result c.from_residual.ensures.1 in
    let e = c.in_err-new.ensures in
    rw (p.1, p.2) (setup_bad _ _ e.refused e.outside)

pub overflow_cast-result : goal.overflow_cast-result
overflow_cast-result c = omega (arith, setup-few c.in_ok-new.field-0.bytes.now c.in_ok-new.field-0.valid, c.len.ensures)

pub returns : goal.returns
returns c = let m = c.in_ok-new.ensures.bytes in let v = c.in_ok-new.field-0.valid in rw (← m) (setup-good _ _ v c.len.ensures)
