use Rattle.dag.proofs.Listed.{listed-fits, listed-low, ordered}
use Rattle.dag.proofs.order_dag.Goals as goal

pub sort-requires : goal.sort-requires
sort-requires c = record { m_in_bounds = search listed-fits; low = search listed-low }

pub returns : goal.returns
returns c = search ordered
