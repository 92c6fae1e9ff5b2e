use Rattle.std.proofs.lemmas.Result.{err_from_is_err_and}
use mathlib.Core.Path.{ap, ◌∙◌}
use native.Mathlib.Omega.{arith}
use Rattle.std.specs.Prelude.{Ok}
use Rattle.aggregators.proofs.Counting.{counts-table}
use Rattle.aggregators.proofs.Certifying.{round-small, in_row, in-new, cert-committee, cert-table, cert-round, cert-origin, cert-digest, cert-out, cert-counted, cert_refused, cert-row, cert-new}
use Rattle.aggregators.proofs.certificates.count_certificate.Goals as goal

pub returns-in_err-committee : goal.returns-in_err-committee
returns-in_err-committee c =
    let p = err_from_is_err_and c.from_residual.result c.from_residual.ensures.1 in
    let e = c.in_err-committee.ensures.refused in
    let f = c.in_err-committee.ensures.outside in
    rw (p.1, p.2) (search cert-committee)

pub returns-in_err-table : goal.returns-in_err-table
returns-in_err-table c =
    let p = err_from_is_err_and c.from_residual-in_err-table.result c.from_residual-in_err-table.ensures.1 in
    let m = c.in_ok-committee.ensures.members in
    let v = c.in_ok-committee.committee.valid in
    let e = c.in_err-table.ensures.refused in
    let f = c.in_err-table.ensures.outside in
    rw (p.1, p.2) (search cert-table)

pub returns-then-not-is_round : goal.returns-then-not-is_round
returns-then-not-is_round c =
    let m = c.in_ok-committee.ensures.members in
    let v = c.in_ok-committee.committee.valid in
    let a = c.in_ok-table.ensures.inside in
    let t = c.in_ok-table.ensures.bytes in
    search cert-round

pub returns-in_err-origin : goal.returns-in_err-origin
returns-in_err-origin c =
    let p = err_from_is_err_and c.from_residual-in_err-origin.result c.from_residual-in_err-origin.ensures.1 in
    let m = c.in_ok-committee.ensures.members in
    let v = c.in_ok-committee.committee.valid in
    let a = c.in_ok-table.ensures.inside in
    let t = c.in_ok-table.ensures.bytes in
    let e = c.in_err-origin.ensures.refused in
    let f = c.in_err-origin.ensures.outside in
    rw (p.1, p.2) (search cert-origin)

pub returns-in_err-digest : goal.returns-in_err-digest
returns-in_err-digest c =
    let p = err_from_is_err_and c.from_residual-in_err-digest.result c.from_residual-in_err-digest.ensures.1 in
    let m = c.in_ok-committee.ensures.members in
    let v = c.in_ok-committee.committee.valid in
    let a = c.in_ok-table.ensures.inside in
    let t = c.in_ok-table.ensures.bytes in
    let lo = c.in_ok-origin.ensures.inside in
    let ko = c.in_ok-origin.ensures.key in
    let e = c.in_err-digest.ensures.refused in
    let f = c.in_err-digest.ensures.outside in
    rw (p.1, p.2) (search cert-digest)

pub returns-then-out-ne1024 : goal.returns-then-out-ne1024
returns-then-out-ne1024 c =
    let m = c.in_ok-committee.ensures.members in
    let v = c.in_ok-committee.committee.valid in
    let a = c.in_ok-table.ensures.inside in
    let t = c.in_ok-table.ensures.bytes in
    let lo = c.in_ok-origin.ensures.inside in
    let ko = c.in_ok-origin.ensures.key in
    let ld = c.in_ok-digest.ensures.inside in
    let kd = c.in_ok-digest.ensures.key in
    search cert-out

pub overflow_cast-round : goal.overflow_cast-round
overflow_cast-round c = omega (arith, round-small c.args.round c.is_round.result c.is_round.ensures c.if-not-is_round.false)

pub count_in_row-requires : goal.count_in_row-requires
count_in_row-requires c =
    let t = c.in_ok-table.ensures.bytes in
    let s = counts-table _ c.in_ok-table.ensures.inside in
    let p = rw t at c.place_for.ensures in
    let w = in_row _ _ _ s _ p _ (c.in_ok-place_for.was ∙ ap Ok c.in-Row.is) in
    record { counts_value = s; i_bound = w.below; i_bound_2 = w.few; in_bounds = omega arith }

pub overflow_cast-round-in-New : goal.overflow_cast-round-in-New
overflow_cast-round-in-New c = omega (arith, round-small c.args.round c.is_round.result c.is_round.ensures c.if-not-is_round.false)

pub count_in_new-requires : goal.count_in_new-requires
count_in_new-requires c =
    let t = c.in_ok-table.ensures.bytes in
    let s = counts-table _ c.in_ok-table.ensures.inside in
    let p = rw t at c.place_for.ensures in
    record { counts_value = s; counts_bound = in-new _ _ _ s _ p (c.in_ok-place_for.was ∙ ap Ok c.in-New.is); in_bounds = omega arith }

pub returns-in-Counted : goal.returns-in-Counted
returns-in-Counted c =
    let m = c.in_ok-committee.ensures.members in
    let v = c.in_ok-committee.committee.valid in
    let a = c.in_ok-table.ensures.inside in
    let t = c.in_ok-table.ensures.bytes in
    let lo = c.in_ok-origin.ensures.inside in
    let ko = c.in_ok-origin.ensures.key in
    let ld = c.in_ok-digest.ensures.inside in
    let kd = c.in_ok-digest.ensures.key in
    let q = c.in_ok-place_for.was ∙ ap Ok c.in-Counted.is in
    search cert-counted

pub returns-in_err-place_for : goal.returns-in_err-place_for
returns-in_err-place_for c =
    let p = err_from_is_err_and c.from_residual-in_err-place_for.result c.from_residual-in_err-place_for.ensures.1 in
    let m = c.in_ok-committee.ensures.members in
    let v = c.in_ok-committee.committee.valid in
    let a = c.in_ok-table.ensures.inside in
    let t = c.in_ok-table.ensures.bytes in
    let lo = c.in_ok-origin.ensures.inside in
    let ko = c.in_ok-origin.ensures.key in
    let ld = c.in_ok-digest.ensures.inside in
    let kd = c.in_ok-digest.ensures.key in
    let q = c.in_err-place_for.was in
    rw (p.1, p.2) (search cert_refused)

pub returns-in-Row : goal.returns-in-Row
returns-in-Row c =
    let m = c.in_ok-committee.ensures.members in
    let v = c.in_ok-committee.committee.valid in
    let a = c.in_ok-table.ensures.inside in
    let t = c.in_ok-table.ensures.bytes in
    let lo = c.in_ok-origin.ensures.inside in
    let ko = c.in_ok-origin.ensures.key in
    let ld = c.in_ok-digest.ensures.inside in
    let kd = c.in_ok-digest.ensures.key in
    let q = c.in_ok-place_for.was ∙ ap Ok c.in-Row.is in
    search cert-row

pub returns-in-New : goal.returns-in-New
returns-in-New c =
    let m = c.in_ok-committee.ensures.members in
    let v = c.in_ok-committee.committee.valid in
    let a = c.in_ok-table.ensures.inside in
    let t = c.in_ok-table.ensures.bytes in
    let lo = c.in_ok-origin.ensures.inside in
    let ko = c.in_ok-origin.ensures.key in
    let ld = c.in_ok-digest.ensures.inside in
    let kd = c.in_ok-digest.ensures.key in
    let q = c.in_ok-place_for.was ∙ ap Ok c.in-New.is in
    search cert-new
