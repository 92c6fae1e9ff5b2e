use Rattle.std.proofs.lemmas.Result.{err_from_is_err_and}
use Rattle.synchronizer.proofs.Replies.{deliver_refused, is-delivered}
use Rattle.synchronizer.proofs.answers.deliver.Goals as goal

pub returns-in_err-known : goal.returns-in_err-known
returns-in_err-known c =
    let p = err_from_is_err_and c.from_residual.result c.from_residual.ensures.1 in
    let o = c.in_err-known.ensures in
    rw (p.1, p.2) (search deliver_refused)

pub returns : goal.returns
returns c = let l = c.in_ok-known.ensures in search is-delivered
