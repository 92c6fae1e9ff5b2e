use mathlib.Core.Path.{refl}
use Rattle.std.proofs.lemmas.Result.{err_from_is_err_and}
use Rattle.proposer.proofs.Outcomes.{event-pace, event-header, event-state, event-invalid, event-parents, event-digest, event-timer, event-other}
use Rattle.proposer.proofs.events.proposer_event.Goals as goal

pub returns-in_err-pace : goal.returns-in_err-pace
returns-in_err-pace c =
    let p = err_from_is_err_and c.from_residual.result c.from_residual.ensures.1 in
    let a = c.in_err-pace.ensures in
    rw (p.1, p.2, a.err) (event-pace _ _ _ _ _ _ _ _ _ a.ok.1)

pub returns-in_default : goal.returns-in_default
returns-in_default c =
    let a = c.in_ok-pace.ensures.ok.0 refl in
    event-header _ _ _ _ _ _ _ _ _ a c.in_default.ensures.cases

pub returns-in_default-as_mut_array : goal.returns-in_default-as_mut_array
returns-in_default-as_mut_array c =
    let a = c.in_ok-pace.ensures.ok.0 refl in
    event-state _ _ _ _ _ _ _ _ _ a _ c.in-Some.ensures.cases c.in_default-as_mut_array.ensures.cases

pub returns-then-not-is_state : goal.returns-then-not-is_state
returns-then-not-is_state c =
    let a = c.in_ok-pace.ensures.ok.0 refl in
    let b = c.in-Some.ensures.cases in
    let w = c.in-Some-as_mut_array.ensures.cases in
    search event-invalid

pub returns-in-1 : goal.returns-in-1
returns-in-1 c =
    let a = c.in_ok-pace.ensures.ok.0 refl in
    let b = c.in-Some.ensures.cases in
    let w = c.in-Some-as_mut_array.ensures.cases in
    let q = c.in_ok-pace.ensures.is in
    search event-parents

pub returns-in-2 : goal.returns-in-2
returns-in-2 c =
    let a = c.in_ok-pace.ensures.ok.0 refl in
    let b = c.in-Some.ensures.cases in
    let w = c.in-Some-as_mut_array.ensures.cases in
    let q = c.in_ok-pace.ensures.is in
    search event-digest

pub returns-in-3 : goal.returns-in-3
returns-in-3 c =
    let a = c.in_ok-pace.ensures.ok.0 refl in
    let b = c.in-Some.ensures.cases in
    let w = c.in-Some-as_mut_array.ensures.cases in
    let q = c.in_ok-pace.ensures.is in
    search event-timer

pub returns-in_default-tag : goal.returns-in_default-tag
returns-in_default-tag c =
    let a = c.in_ok-pace.ensures.ok.0 refl in
    let b = c.in-Some.ensures.cases in
    let w = c.in-Some-as_mut_array.ensures.cases in
    search event-other
