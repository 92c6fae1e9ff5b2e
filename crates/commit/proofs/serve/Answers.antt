use native.Mathlib.Omega.{arith}
use borrow.Author.Rules.{rules}
use Rattle.commit.proofs.Lending.{lends-start, lends-fits, lends-ready, lends-present, lends-above, lends-room, lends-sum, lends-next, lends-done}
use Rattle.commit.proofs.serve.Goals as goal

pub loop-left-init : goal.loop-left-init
loop-left-init c = search lends-start

pub get_round-round-requires : goal.get_round-round-requires
get_round-round-requires c = search lends-fits

pub turn-at-requires : goal.turn-at-requires
turn-at-requires c = let v = c.loop-left.invariant in
    let more = c.loop-left-test.true in
    let g = c.get_round-round.ensures in
    record { ready = lends-ready _ _ _ _ _ _ _ _ _ _ c.requires.ready c.requires.table_bound c.requires.h_in_bounds c.requires.opened _ _ _ _ _ _ _ _ v; table_bound = lends-present _ _ _ _ _ _ _ _ _ _ c.requires.ready c.requires.table_bound c.requires.h_in_bounds c.requires.opened _ _ _ _ _ _ _ _ v more _ g; state_bound = lends-above _ _ _ _ _ _ _ _ _ _ c.requires.ready c.requires.table_bound c.requires.h_in_bounds c.requires.opened _ _ _ _ _ _ _ _ v more _ g; table_in_bounds = lends-room _ _ _ _ _ _ _ _ _ _ c.requires.ready c.requires.table_bound c.requires.h_in_bounds c.requires.opened _ _ _ _ _ _ _ _ v more _ g c.requires.table_in_bounds }

pub overflow_add-at : goal.overflow_add-at
overflow_add-at c = let v = c.loop-left.invariant in
    let more = c.loop-left-test.true in
    let g = c.get_round-round.ensures in
    let z = lends-sum _ _ _ _ _ _ _ _ _ _ c.requires.ready c.requires.table_bound c.requires.h_in_bounds c.requires.opened _ _ _ _ _ _ _ _ v more _ g c.requires.table_in_bounds _ _ _ _ c.turn-at.ensures in
    record { fits = omega arith }

pub loop-left-preserved : goal.loop-left-preserved
loop-left-preserved c = let v = c.loop-left.invariant in
    let more = c.loop-left-test.true in
    let g = c.get_round-round.ensures in
    lends-next _ _ _ _ _ _ _ _ _ _ c.requires.ready c.requires.table_bound c.requires.h_in_bounds c.requires.opened _ _ _ _ _ _ _ _ v more _ g c.requires.table_in_bounds _ _ _ _ c.turn-at.ensures _ c.turn-at.new.marks _ (search rules) (search rules) (search rules) (search rules) (search rules) (search rules) (omega arith)

pub returns : goal.returns
returns c = search lends-done
