use Rattle.aggregators.proofs.Counting.{gives-from, gives_none, gives-some}
use Rattle.aggregators.proofs.rounds.Open.gives.Goals as goal

pub returns-then-not-is_enough : goal.returns-then-not-is_enough
returns-then-not-is_enough c = search gives_none

pub overflow_sub-result : goal.overflow_sub-result
overflow_sub-result c = search gives-from

pub returns : goal.returns
returns c = search gives-some
