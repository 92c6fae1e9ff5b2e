use Rattle.std.proofs.lemmas.Result.{err_from_is_err_and}
use Rattle.config.proofs.Replies.{bad_members, good-members, bad_shape, bad-shape, good-shape, done, worker-key, worker-id, worker-both}
use Rattle.config.specs.Answers.{worker_answer}
use Rattle.config.proofs.answers.worker.Goals as goal

pub returns-in_err-committee : goal.returns-in_err-committee
unfolding worker_answer
returns-in_err-committee c =
    let p = err_from_is_err_and c.from_residual.result c.from_residual.ensures.1 in
    let e = c.in_err-committee.ensures in
    rw (p.1, p.2) (bad_members _ _ _ e.refused e.outside)

pub returns-in_err-key : goal.returns-in_err-key
unfolding worker_answer
returns-in_err-key c =
    let p = err_from_is_err_and c.from_residual-in_err-key.result c.from_residual-in_err-key.ensures.1 in
    let e = c.in_err-key.ensures in
    let m = c.in_ok-committee.ensures.members in
    let v = c.in_ok-committee.committee.valid in
    rw (p.1, p.2, ← m) (good-members _ _ _ v (bad_shape _ _ _ e.refused (worker-key _ _ e.outside)))

pub returns-then-id-gt4294967295 : goal.returns-then-id-gt4294967295
unfolding worker_answer
returns-then-id-gt4294967295 c =
    let m = c.in_ok-committee.ensures.members in
    let v = c.in_ok-committee.committee.valid in
    let k = c.in_ok-key.ensures.key in
    let l = rw (← k) at c.in_ok-key.ensures.inside in
    rw (← m, ← k) (search (good-members, bad-shape, worker-id))

pub returns : goal.returns
unfolding worker_answer
returns c =
    let m = c.in_ok-committee.ensures.members in
    let v = c.in_ok-committee.committee.valid in
    let k = c.in_ok-key.ensures.key in
    let l = rw (← k) at c.in_ok-key.ensures.inside in
    rw (← m, ← k) (search (good-members, good-shape, worker-both, done))
