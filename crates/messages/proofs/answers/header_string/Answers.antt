use Rattle.std.proofs.Common.{rules, arith}
use Rattle.std.proofs.lemmas.Result.{err_from_is_err_and}
use Rattle.messages.proofs.Laws.{not-shaped, header-parents, header-payload}
use Rattle.messages.proofs.Replies.{room-yes, header-misshapen, shaped-few, header-no-room, header-part, header-done}
use Rattle.messages.proofs.answers.header_string.Goals as goal

pub returns-in_err-header : goal.returns-in_err-header
returns-in_err-header c =
    let p = err_from_is_err_and c.from_residual.result c.from_residual.ensures.1 in
    let o = c.in_err-header.ensures in
    rw (p.1, p.2, o.err) (header-misshapen _ _ _ (not-shaped _ o.ok.1))

pub header_length-n-requires : goal.header_length-n-requires
header_length-n-requires c = let s = c.in_ok-header.field-0.shape in search (rules, header-parents, header-payload)

pub returns-then-not-has_room : goal.returns-then-not-has_room
returns-then-not-has_room c = let s = c.in_ok-header.field-0.shape in rw (← c.in_ok-header.ensures.is) (search header-no-room)

pub overflow_add-end : goal.overflow_add-end
overflow_add-end c = let f = room-yes c.args.out.now c.args.at c.header_length-n.result _ c.has_room.ensures c.if-not-has_room.false-raw in omega arith

pub slice_bounds-write_header-end : goal.slice_bounds-write_header-end
slice_bounds-write_header-end c = let f = room-yes c.args.out.now c.args.at c.header_length-n.result _ c.has_room.ensures c.if-not-has_room.false-raw in omega arith

pub write_header-requires : goal.write_header-requires
write_header-requires c = let s = c.in_ok-header.field-0.shape in record { header_bound = search header-parents; header_bound_2 = search header-payload; out_len = search header-part }

pub overflow_cast-result : goal.overflow_cast-result
overflow_cast-result c = let f = shaped-few _ c.args.out.now c.args.at c.in_ok-header.field-0.shape _ c.header_length-n.ensures in omega arith

pub returns : goal.returns
returns c = let s = c.in_ok-header.field-0.shape in rw (← c.in_ok-header.ensures.is) (search header-done)
