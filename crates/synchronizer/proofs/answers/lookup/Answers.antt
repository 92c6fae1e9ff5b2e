use Rattle.std.proofs.lemmas.Result.{err_from_is_err_and}
use Rattle.messages.proofs.Laws.{not-shaped}
use Rattle.synchronizer.proofs.Replies.{look-committee, look-genesis, look-table, look-header, look-done}
use Rattle.synchronizer.proofs.answers.lookup.Goals as goal

pub returns-then-not-valid_members : goal.returns-then-not-valid_members
returns-then-not-valid_members c = search look-committee

pub returns-then-not-valid_genesis : goal.returns-then-not-valid_genesis
returns-then-not-valid_genesis c = search look-genesis

pub returns-in_err-known : goal.returns-in_err-known
returns-in_err-known c =
    let p = err_from_is_err_and c.from_residual.result c.from_residual.ensures.1 in
    let o = c.in_err-known.ensures in
    let q = not-shaped _ o.ok.1 in
    rw (p.1, p.2, o.err) (search look-table)

pub returns-in_err-header : goal.returns-in_err-header
returns-in_err-header c =
    let p = err_from_is_err_and c.from_residual-in_err-header.result c.from_residual-in_err-header.ensures.1 in
    let o = c.in_err-header.ensures in
    let q = not-shaped _ o.ok.1 in
    let s = c.in_ok-known.known.shape in
    let t = c.in_ok-known.ensures.is in
    rw (p.1, p.2, o.err) (search look-header)

pub returns : goal.returns
returns c =
    let s = c.in_ok-known.known.shape in
    let t = c.in_ok-known.ensures.is in
    let q = c.in_ok-header.header.shape in
    let u = c.in_ok-header.ensures.is in
    search look-done
