use Rattle.table.proofs.Laws.{shaped-short, shaped-no-size, shaped-over, shaped-none, shaped-last}
use Rattle.table.specs.Rows.{count_of, places}
use mathlib.Core.Path.{sym}
use Rattle.table.proofs.rows.shape.Goals as goal

pub returns-then-table-lt8 : goal.returns-then-table-lt8
returns-then-table-lt8 c = sym (shaped-short c.args.size c.args.table.now c.if-table-lt8.true)

pub returns-then-size-eq0 : goal.returns-then-size-eq0
returns-then-size-eq0 c = sym (shaped-no-size c.args.size c.args.table.now c.if-table-lt8.false c.if-size-eq0.true)

pub returns-then-body-size-ne0 : goal.returns-then-body-size-ne0
returns-then-body-size-ne0 c = sym (shaped-over c.args.size c.args.table.now c.if-table-lt8.false c.if-size-eq0.false c.if-body-size-ne0.true)

pub returns-then-k-eq0 : goal.returns-then-k-eq0
returns-then-k-eq0 c = sym (shaped-none c.args.size c.args.table.now c.if-table-lt8.false c.if-size-eq0.false c.if-body-size-ne0.false c.if-k-eq0.true)

pub returns : goal.returns
unfolding count_of places
returns c = rw c.read_u64.ensures (sym (shaped-last c.args.size c.args.table.now c.if-table-lt8.false c.if-size-eq0.false c.if-body-size-ne0.false c.if-k-eq0.false))
