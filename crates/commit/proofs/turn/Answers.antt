use native.Mathlib.Omega.{arith}
use Rattle.commit.proofs.Turning.{due-room, turned}
use Rattle.commit.proofs.turn.Goals as goal

pub list_due-requires : goal.list_due-requires
list_due-requires c = let p = c.requires.ready in
    let d = c.due-m.ensures in
    record { table_value = p.shape; state_len = p.state; depth_bound = p.deep; m_in_bounds = d.room; below = d.low; m_in_bounds_2 = due-room c.args.state.now c.args.table.now c.args.depth _ _ _ c.args.at c.args.list.now d c.requires.table_in_bounds }

pub returns : goal.returns
returns c = turned _ _ _ _ _ _ _ _ _ _ _ _ _ _ _ c.requires.ready c.requires.table_bound c.requires.state_bound c.due-m.ensures c.list_due.ensures c.requires.table_in_bounds (omega arith)
