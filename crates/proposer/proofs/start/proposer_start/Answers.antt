use mathlib.Core.Path.{refl}
use Rattle.std.proofs.lemmas.Result.{err_from_is_err_and}
use Rattle.proposer.proofs.Beginning.{start-no, start-own, start-stranger, start-pace, start-no-state, start-no-header, start-genesis, start-records, start-valid, start-made}
use Rattle.proposer.proofs.start.proposer_start.Goals as goal

pub returns-then-not-valid_members : goal.returns-then-not-valid_members
returns-then-not-valid_members c = search start-no

pub returns-in_default : goal.returns-in_default
returns-in_default c = let w = c.in_default.ensures.cases in search start-own

pub returns-in_default-standing_of : goal.returns-in_default-standing_of
returns-in_default-standing_of c = let o = c.in-Some.ensures.cases in search start-stranger

pub returns-in_err-pace : goal.returns-in_err-pace
returns-in_err-pace c =
    let p = err_from_is_err_and c.from_residual.result c.from_residual.ensures.1 in
    let o = c.in-Some.ensures.cases in
    let a = c.in_err-pace.ensures in
    let b = a.ok.1 in
    rw (p.1, p.2, a.err) (search start-pace)

pub returns-in_default-as_mut_array : goal.returns-in_default-as_mut_array
returns-in_default-as_mut_array c =
    let o = c.in-Some.ensures.cases in
    let a = c.in_ok-pace.ensures.ok.0 refl in
    let w = c.in_default-as_mut_array.ensures.cases in
    search start-no-state

pub returns-in_default-as_mut_array-2 : goal.returns-in_default-as_mut_array-2
returns-in_default-as_mut_array-2 c =
    let o = c.in-Some.ensures.cases in
    let a = c.in_ok-pace.ensures.ok.0 refl in
    let s = c.in-Some-as_mut_array.ensures.cases in
    let w = c.in_default-as_mut_array-2.ensures.cases in
    search start-no-header

pub returns-then-not-valid_genesis : goal.returns-then-not-valid_genesis
returns-then-not-valid_genesis c =
    let o = c.in-Some.ensures.cases in
    let a = c.in_ok-pace.ensures.ok.0 refl in
    let s = c.in-Some-as_mut_array.ensures.cases in
    let h = c.in-Some-as_mut_array-2.ensures.cases in
    search start-genesis

pub start_state-requires : goal.start_state-requires
start_state-requires c =
    let o = c.in-Some.ensures.cases in
    let a = c.in_ok-pace.ensures.ok.0 refl in
    let s = c.in-Some-as_mut_array.ensures.cases in
    let h = c.in-Some-as_mut_array-2.ensures.cases in
    search start-records

pub settle-requires : goal.settle-requires
settle-requires c =
    let o = c.in-Some.ensures.cases in
    let a = c.in_ok-pace.ensures.ok.0 refl in
    let s = c.in-Some-as_mut_array.ensures.cases in
    let h = c.in-Some-as_mut_array-2.ensures.cases in
    search start-valid

pub returns : goal.returns
returns c =
    let o = c.in-Some.ensures.cases in
    let a = c.in_ok-pace.ensures.ok.0 refl in
    let s = c.in-Some-as_mut_array.ensures.cases in
    let h = c.in-Some-as_mut_array-2.ensures.cases in
    let q = c.in_ok-pace.ensures.is in
    search start-made
