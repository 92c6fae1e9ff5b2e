use borrow.Author.Rules.{rules}
use Rattle.dag.proofs.Going.{going_start, going_done, going-fits, going-room, going-sound, going-below, going_less, going_next}
use Rattle.dag.proofs.walk.follow.Goals as goal

pub loop-pile-init : goal.loop-pile-init
loop-pile-init c = search going_start

pub get-x-requires : goal.get-x-requires
get-x-requires c = search going-fits

pub keep_near-m-requires : goal.keep_near-m-requires
keep_near-m-requires c = record { x_bound = search going-below; m_in_bounds = search going-room }

pub put_parents-requires : goal.put_parents-requires
put_parents-requires c = record { x_bound = search going-below; marks_len = search rules }

pub invariant_of-pile : goal.invariant_of-pile
invariant_of-pile c = record { sound = search going-sound }

pub loop-pile-smaller : goal.loop-pile-smaller
loop-pile-smaller c = search going_less

pub loop-pile-preserved : goal.loop-pile-preserved
loop-pile-preserved c = search going_next

pub returns : goal.returns
returns c = search going_done
