use mathlib.Core.Path.{◌∙◌, ap}
use mathlib.Core.List.{List}
use Prim.Native.Nat.{ℕ}
use lib.ListN.{drop}
use Rattle.std.proofs.lemmas.Result.{err_from_is_err_and}
use Rattle.ordering.proofs.Beginning.{start_refused, start-shape, start-few, start-room, start-done}
use Rattle.ordering.proofs.start.start.Goals as goal

pub returns-in_err-setup : goal.returns-in_err-setup
returns-in_err-setup c =
    let p = err_from_is_err_and c.from_residual.result c.from_residual.ensures.1 in
    let e = c.in_err-setup.ensures in
    rw (p.1, p.2) (search start_refused)

pub returns-then-not-is_start : goal.returns-then-not-is_start
returns-then-not-is_start c =
    let v = c.in_ok-setup.setup.valid in
    rw (← c.in_ok-setup.ensures.bytes) (search start-shape)

pub start_table-requires : goal.start_table-requires
start_table-requires c =
    let v = c.in_ok-setup.setup.valid in
    record { genesis_len_bound = search start-few; genesis_in_bounds = search start-room }

pub returns : goal.returns
returns c =
    let v = c.in_ok-setup.setup.valid in
    rw (← c.in_ok-setup.ensures.bytes) (search start-done)
