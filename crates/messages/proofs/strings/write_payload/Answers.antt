use Rattle.messages.proofs.Writing.{filling-same, filling-done, payload-start, payload-end, payload-next}
use borrow.Author.Rules.{rules}
use Rattle.messages.proofs.strings.write_payload.Goals as goal

pub loop-i-init : goal.loop-i-init
loop-i-init c = search (rules, payload-start)

pub slice_bounds-write_item-end : goal.slice_bounds-write_item-end
slice_bounds-write_item-end c = search payload-end

pub loop-i-preserved : goal.loop-i-preserved
loop-i-preserved c = search (rules, payload-next)

pub shape_of-out : goal.shape_of-out
shape_of-out c = search filling-same

pub returns : goal.returns
returns c = search filling-done
