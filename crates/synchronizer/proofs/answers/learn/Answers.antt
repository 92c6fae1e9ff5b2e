use mathlib.Core.Path.{refl, ap, ◌∙◌}
use Rattle.std.specs.Prelude.{Ok}
use Rattle.std.proofs.lemmas.Result.{err_from_is_err_and}
use Rattle.messages.proofs.Laws.{not-shaped}
use Rattle.synchronizer.proofs.Replies.{learn-table, learn-long, learn-round, learn-known, learn_refused, learn-new, new-fits}
use native.Mathlib.Omega.{arith}
use Rattle.synchronizer.proofs.answers.learn.Goals as goal

pub returns-in_err-table : goal.returns-in_err-table
returns-in_err-table c =
    let p = err_from_is_err_and c.from_residual.result c.from_residual.ensures.1 in
    let o = c.in_err-table.ensures in
    rw (p.1, p.2, o.err) (learn-table _ _ (not-shaped _ o.ok.1))

pub returns-then-new-ne-RECORD : goal.returns-then-new-ne-RECORD
returns-then-new-ne-RECORD c = let s = c.in_ok-table.ensures.ok.0 refl in search learn-long

pub returns-then-read_u32-eq0 : goal.returns-then-read_u32-eq0
returns-then-read_u32-eq0 c = let s = c.in_ok-table.ensures.ok.0 refl in search learn-round

pub append-requires : goal.append-requires
append-requires c =
    let e = rw c.in_ok-table.ensures.is at c.known_as.ensures in
    record { table_value = c.in_ok-table.ensures.ok.0 refl; table_bound = new-fits _ _ _ e (c.in_ok-is_known.was ∙ ap Ok c.if-is_known.false); len = omega arith }

pub returns-in_err-is_known : goal.returns-in_err-is_known
returns-in_err-is_known c =
    let p = err_from_is_err_and c.from_residual-in_err-is_known.result c.from_residual-in_err-is_known.ensures.1 in
    let q = c.in_err-is_known.was in
    let s = c.in_ok-table.ensures.ok.0 refl in
    let e = rw c.in_ok-table.ensures.is at c.known_as.ensures in
    rw (p.1, p.2) (search learn_refused)

pub returns-then-is_known : goal.returns-then-is_known
returns-then-is_known c =
    let s = c.in_ok-table.ensures.ok.0 refl in
    let e = rw c.in_ok-table.ensures.is at c.known_as.ensures in
    let q = c.in_ok-is_known.was ∙ ap Ok c.if-is_known.true in
    search learn-known

pub returns : goal.returns
returns c =
    let s = c.in_ok-table.ensures.ok.0 refl in
    let e = rw c.in_ok-table.ensures.is at c.known_as.ensures in
    let q = c.in_ok-is_known.was ∙ ap Ok c.if-is_known.false in
    search learn-new
