use Rattle.std.proofs.lemmas.Result.{err_from_is_err_and}
use Rattle.synchronizer.proofs.Replies.{parents_refused, parents-out, parents-done, few-missing}
use native.Mathlib.Omega.{arith}
use Rattle.synchronizer.proofs.answers.get_parents.Goals as goal

pub returns-in_err-known : goal.returns-in_err-known
returns-in_err-known c =
    let p = err_from_is_err_and c.from_residual.result c.from_residual.ensures.1 in
    let o = c.in_err-known.ensures in
    rw (p.1, p.2) (search parents_refused)

pub returns-then-out-ne1024 : goal.returns-then-out-ne1024
returns-then-out-ne1024 c = let l = c.in_ok-known.ensures in search parents-out

pub overflow_cast-result : goal.overflow_cast-result
overflow_cast-result c = omega (arith, few-missing _ _ _ _ _ _ c.in_ok-known.header.shape c.missing_parents.ensures)

pub returns : goal.returns
returns c = let l = c.in_ok-known.ensures in search parents-done
