use Rattle.ordering.proofs.Beginning.{filling-start, filling-record, filling-item, filling-few, filling-fits, filling-zeros, filling-digest, filling-next, filling-done}
use Rattle.ordering.proofs.start.put_rows.Goals as goal

pub loop-i-init : goal.loop-i-init
loop-i-init c = search filling-start

pub item-requires : goal.item-requires
item-requires c = search filling-record

pub digest-one-requires : goal.digest-one-requires
digest-one-requires c = search filling-item

pub put_row-requires : goal.put_row-requires
put_row-requires c = record { i_bound = search filling-few; i_in_bounds = search filling-fits; i_value = search filling-zeros; digest_len = search filling-digest }

pub loop-i-preserved : goal.loop-i-preserved
loop-i-preserved c = search filling-next

pub returns : goal.returns
returns c = search filling-done
