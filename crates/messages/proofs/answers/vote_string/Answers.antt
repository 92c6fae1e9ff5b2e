use mathlib.Core.Path.{ap, ◌∙◌}
use lib.ListN.{length}
use Rattle.std.proofs.lemmas.Option.{MatchOption-at_some, MatchOption-at_none}
use Rattle.messages.proofs.Replies.{room-yes}
use Rattle.messages.proofs.Replies.{id-misshapen, origin-misshapen, round-misshapen, vote-no-room, vote-done}
use native.Mathlib.Omega.{arith}
use Rattle.messages.proofs.answers.vote_string.Goals as goal

pub returns-in_default : goal.returns-in_default
returns-in_default c = let f = MatchOption-at_none _ _ c.in_default.is c.as_array.ensures.cases in search id-misshapen

pub returns-in_default-as_array : goal.returns-in_default-as_array
returns-in_default-as_array c = let f = MatchOption-at_none _ _ c.in_default-as_array.is c.as_array-2.ensures.cases in search origin-misshapen

pub returns-then-not-lawful_round : goal.returns-then-not-lawful_round
returns-then-not-lawful_round c = search round-misshapen

pub returns-then-not-has_room : goal.returns-then-not-has_room
returns-then-not-has_room c =
    let f = MatchOption-at_some _ _ _ c.in-Some.is c.as_array.ensures.cases in
    let g = MatchOption-at_some _ _ _ c.in-Some-as_array.is c.as_array-2.ensures.cases in
    let i = f.long in
    let o = g.long in
    search vote-no-room

pub overflow_add-end : goal.overflow_add-end
overflow_add-end c = let f = room-yes c.args.out.now c.args.at 72 _ c.has_room.ensures c.if-not-has_room.false-raw in omega arith

pub slice_bounds-write_vote-end : goal.slice_bounds-write_vote-end
slice_bounds-write_vote-end c = let f = room-yes c.args.out.now c.args.at 72 _ c.has_room.ensures c.if-not-has_room.false-raw in omega arith

pub returns : goal.returns
returns c =
    let f = MatchOption-at_some _ _ _ c.in-Some.is c.as_array.ensures.cases in
    let g = MatchOption-at_some _ _ _ c.in-Some-as_array.is c.as_array-2.ensures.cases in
    let i = ap length f.same ∙ f.long in
    let o = ap length g.same ∙ g.long in
    rw (← f.same, ← g.same) (search vote-done)
