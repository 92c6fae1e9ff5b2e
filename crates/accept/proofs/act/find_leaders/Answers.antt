use native.Mathlib.Omega.{arith}
use mathlib.Core.Path.{refl}
use borrow.Author.Rules.{rules}
use Rattle.held.proofs.Laws.{is-told, some-place}
use Rattle.accept.proofs.Committing.{round-high, opener-low, opener-holds, walk-part, link-part, leaders-found, found_back}
use Rattle.accept.proofs.act.find_leaders.Goals as goal

pub overflow_sub-round : goal.overflow_sub-round
overflow_sub-round c = omega (arith, round-high c.args.view.now.setup.bytes.now c.args.round c.args.state.now c.args.view.now.held.table.now c.requires.opening)

pub unwrap-opener-requires : goal.unwrap-opener-requires
unwrap-opener-requires c = is-told _ _ _ c.leader.ensures.value (opener-low _ _ _ _ c.requires.opening _ refl)

pub order_leaders-requires : goal.order_leaders-requires
order_leaders-requires c = let o = c.requires.opening in
    let e = some-place _ _ _ c.leader.ensures.value _ c.unwrap-opener.ensures in
    record { opener_bound = opener-low _ _ _ _ o _ e; marks_len = walk-part c.args.walk.now c.args.view.now.held.table.now _ c.len-h.ensures c.requires.walk_len; table_in_bounds = link-part c.args.link.now c.args.view.now.held.table.now _ c.len-h.ensures c.requires.link_len; opener = opener-holds _ _ _ _ o _ e }

pub returns : goal.returns
returns c = let o = c.requires.opening in
    let e = some-place _ _ _ c.leader.ensures.value _ c.unwrap-opener.ensures in
    rw (← c.len-h.ensures) (found_back _ _ _ _ _ _ _ _ c.len-h.ensures c.requires.link_len (search rules) (leaders-found _ _ _ _ o _ e _ _ _ (link-part c.args.link.now c.args.view.now.held.table.now _ c.len-h.ensures c.requires.link_len) c.order_leaders.ensures))
