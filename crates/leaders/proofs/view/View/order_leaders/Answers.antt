use mathlib.Core.Path.{refl}
use borrow.Author.Rules.{rules}
use Rattle.held.proofs.Laws.{is-told, some-place}
use Rattle.leaders.proofs.Joining.{joining-start, joining-last, joining-done, joining-some, joining-two, joining-falls, joining-place, joining-below, joining-whole, joining-room, joining-pass, joining-take}
use Rattle.leaders.proofs.Joining.{joining-low, joining-two-below}
use Rattle.leaders.proofs.view.View.order_leaders.Goals as goal

pub overflow_add-low : goal.overflow_add-low
overflow_add-low c = search (rules, joining-low)

pub overflow_sub-r : goal.overflow_sub-r
overflow_sub-r c = search (rules, joining-two-below)

pub loop-q-init : goal.loop-q-init
loop-q-init c = search joining-start

pub returns : goal.returns
returns c = let e = c.in_default.ensures.value in search joining-done

pub unwrap-p-requires : goal.unwrap-p-requires
unwrap-p-requires c =
    let e = c.in-Some.ensures.value in
    let n = joining-some c.loop-q.invariant e c.in-Some.ensures.floor in
    is-told _ _ _ c.leader.ensures.value (joining-place c.loop-q.invariant e n refl)

pub overflow_sub-r-in-Some : goal.overflow_sub-r-in-Some
overflow_sub-r-in-Some c =
    let e = c.in-Some.ensures.value in
    let n = joining-some c.loop-q.invariant e c.in-Some.ensures.floor in
    search (rules, joining-two)

pub reaches-requires : goal.reaches-requires
reaches-requires c =
    let J = c.loop-q.invariant in
    let e = c.in-Some.ensures.value in
    let n = joining-some J e c.in-Some.ensures.floor in
    let f = some-place _ _ _ c.leader.ensures.value _ c.unwrap-p.ensures in
    record { marks_len = J.size; from_bound = joining-last J; to_bound = joining-place J e n f; to_bound_2 = joining-below J e n f; table_value_2 = joining-whole J e n f }

pub loop-q-smaller-then-not-reaches : goal.loop-q-smaller-then-not-reaches
loop-q-smaller-then-not-reaches c = let e = c.in-Some.ensures.value in joining-falls c.loop-q.invariant e (joining-some c.loop-q.invariant e c.in-Some.ensures.floor)

pub loop-q-preserved-then-not-reaches : goal.loop-q-preserved-then-not-reaches
loop-q-preserved-then-not-reaches c =
    let e = c.in-Some.ensures.value in
    let n = joining-some c.loop-q.invariant e c.in-Some.ensures.floor in
    let f = some-place _ _ _ c.leader.ensures.value _ c.unwrap-p.ensures in
    search joining-pass

pub put_round-requires-in-Some : goal.put_round-requires-in-Some
put_round-requires-in-Some c =
    let e = c.in-Some.ensures.value in
    let n = joining-some c.loop-q.invariant e c.in-Some.ensures.floor in
    let f = some-place _ _ _ c.leader.ensures.value _ c.unwrap-p.ensures in
    search joining-room

pub loop-q-smaller : goal.loop-q-smaller
loop-q-smaller c = let e = c.in-Some.ensures.value in joining-falls c.loop-q.invariant e (joining-some c.loop-q.invariant e c.in-Some.ensures.floor)

pub loop-q-preserved : goal.loop-q-preserved
loop-q-preserved c =
    let e = c.in-Some.ensures.value in
    let n = joining-some c.loop-q.invariant e c.in-Some.ensures.floor in
    let f = some-place _ _ _ c.leader.ensures.value _ c.unwrap-p.ensures in
    search joining-take
