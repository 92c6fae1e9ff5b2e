use Rattle.aggregators.proofs.Giving.{writing_start, writing-fits, writing-reach, writing-room, writing-next, writing-done}
use Rattle.aggregators.proofs.certificates.put_digests.Goals as goal

pub loop-i-init : goal.loop-i-init
loop-i-init c = search writing_start

pub item-pair-requires : goal.item-pair-requires
item-pair-requires c = search writing-fits

pub digest_in-requires : goal.digest_in-requires
digest_in-requires c = search writing-reach

pub put_bytes-requires : goal.put_bytes-requires
put_bytes-requires c = search writing-room

pub loop-i-preserved : goal.loop-i-preserved
loop-i-preserved c = search writing-next

pub returns : goal.returns
returns c = search writing-done
