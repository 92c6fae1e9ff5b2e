use Rattle.commit.proofs.Turning.{due-at, marks-lent}
use Rattle.commit.proofs.due.Goals as goal

pub order_dag-requires : goal.order_dag-requires
order_dag-requires c = let p = c.requires.ready in
    record { leader_bound = c.start_of-start.ensures.low; marks_len = marks-lent c.args.marks.now c.args.held.now.table.now _ p.marks c.len-k.ensures; table_in_bounds = p.pile; table_in_bounds_2 = p.sort }

pub returns : goal.returns
returns c = search due-at
