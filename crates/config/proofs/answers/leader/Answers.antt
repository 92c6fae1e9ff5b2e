use Rattle.std.proofs.lemmas.Result.{err_from_is_err_and}
use Rattle.config.proofs.Replies.{bad_members, good-members, bad-shape, good-shape, done, round-low, round-high, round-right}
use Rattle.config.proofs.Laws.{leader-small, valid}
use native.Mathlib.Omega.{arith}
use mathlib.Core.Path.{ap, ◌∙◌}
use Prim.Native.Nat.{ℕ}
use Rattle.config.specs.Committee.{leader_place}
use Rattle.config.specs.Answers.{leader_answer}
use Rattle.config.proofs.answers.leader.Goals as goal

pub returns-in_err-committee : goal.returns-in_err-committee
unfolding leader_answer
returns-in_err-committee c =
    let p = err_from_is_err_and c.from_residual.result c.from_residual.ensures.1 in
    let e = c.in_err-committee.ensures in
    rw (p.1, p.2) (bad_members _ _ _ e.refused e.outside)

pub returns-then-round-lt1 : goal.returns-then-round-lt1
unfolding leader_answer
returns-then-round-lt1 c =
    let m = c.in_ok-committee.ensures.members in
    let v = c.in_ok-committee.committee.valid in
    rw (← m) (search (good-members, bad-shape, round-low))

pub returns-then-round-gt4294967295 : goal.returns-then-round-gt4294967295
unfolding leader_answer
returns-then-round-gt4294967295 c =
    let m = c.in_ok-committee.ensures.members in
    let v = c.in_ok-committee.committee.valid in
    rw (← m) (search (good-members, bad-shape, round-high))

pub leader_place-requires : goal.leader_place-requires
leader_place-requires c = omega (arith, c.len.ensures, (valid _ c.in_ok-committee.committee.valid).one)

pub overflow_cast-result : goal.overflow_cast-result
overflow_cast-result c = omega (arith, leader-small _ c.args.round _ c.in_ok-committee.committee.valid (c.leader_place.ensures ∙ ap (λ (n : ℕ). leader_place n c.args.round) c.len.ensures))

pub returns : goal.returns
unfolding leader_answer
returns c =
    let m = c.in_ok-committee.ensures.members in
    let v = c.in_ok-committee.committee.valid in
    rw (← m, ← c.len.ensures) (search (good-members, good-shape, round-right, done))
