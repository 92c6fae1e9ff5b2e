use Rattle.table.proofs.Laws.{is-shaped}
use Rattle.aggregators.proofs.Counting.{counts-no-table, counts-last}
use Rattle.aggregators.proofs.rounds.counts_shape.Goals as goal

pub returns-then-not-shape : goal.returns-then-not-shape
returns-then-not-shape c = search counts-no-table

pub all_few-requires : goal.all_few-requires
all_few-requires c = search is-shaped

pub returns : goal.returns
returns c = search counts-last
