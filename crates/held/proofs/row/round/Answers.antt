use borrow.Author.Rules.{rules}
use Rattle.table.specs.Rows.{round_of}
use Rattle.held.proofs.row.round.Goals as goal

pub returns : goal.returns
unfolding round_of
returns c = search rules
