use Rattle.std.proofs.lemmas.Result.{err_from_is_err_and}
use Rattle.messages.proofs.Laws.{not-shaped}
use Rattle.checks.proofs.Laws.{header-10, header-11, header-11-id, header-11-signature, header-found}
use Rattle.checks.proofs.header.header_check.Goals as goal

pub returns-in_err-committee : goal.returns-in_err-committee
returns-in_err-committee c =
    let p = err_from_is_err_and c.from_residual.result c.from_residual.ensures.1 in
    let e = c.in_err-committee.ensures in
    let o = e.outside in
    rw (p.1, p.2, e.refused) (search header-10)

pub returns-in_err-header : goal.returns-in_err-header
returns-in_err-header c =
    let p = err_from_is_err_and c.from_residual-in_err-header.result c.from_residual-in_err-header.ensures.1 in
    let m = c.in_ok-committee.ensures.members in
    let v = c.in_ok-committee.committee.valid in
    let e = c.in_err-header.ensures in
    let o = not-shaped _ e.ok.1 in
    rw (p.1, p.2, e.err) (search header-11)

pub returns-in_err-id_ok : goal.returns-in_err-id_ok
returns-in_err-id_ok c =
    let p = err_from_is_err_and c.from_residual-in_err-id_ok.result c.from_residual-in_err-id_ok.ensures.1 in
    let m = c.in_ok-committee.ensures.members in
    let v = c.in_ok-committee.committee.valid in
    let s = c.in_ok-header.header.shape in
    let e = c.in_ok-header.ensures.is in
    let r = c.in_err-id_ok.ensures in
    let o = r.outside in
    rw (p.1, p.2, r.refused) (search header-11-id)

pub returns-in_err-sig_ok : goal.returns-in_err-sig_ok
returns-in_err-sig_ok c =
    let p = err_from_is_err_and c.from_residual-in_err-sig_ok.result c.from_residual-in_err-sig_ok.ensures.1 in
    let m = c.in_ok-committee.ensures.members in
    let v = c.in_ok-committee.committee.valid in
    let s = c.in_ok-header.header.shape in
    let e = c.in_ok-header.ensures.is in
    let id-in = c.in_ok-id_ok.ensures.inside in
    let id-is = c.in_ok-id_ok.ensures.value in
    let r = c.in_err-sig_ok.ensures in
    let o = r.outside in
    rw (p.1, p.2, r.refused) (search header-11-signature)

pub returns : goal.returns
returns c =
    let m = c.in_ok-committee.ensures.members in
    let v = c.in_ok-committee.committee.valid in
    let s = c.in_ok-header.header.shape in
    let e = c.in_ok-header.ensures.is in
    let id-in = c.in_ok-id_ok.ensures.inside in
    let id-is = c.in_ok-id_ok.ensures.value in
    let sig-in = c.in_ok-sig_ok.ensures.inside in
    let sig-is = c.in_ok-sig_ok.ensures.value in
    search header-found
