use Rattle.held.proofs.Laws.{lawful-shape}
use Rattle.held.proofs.whole.Held.is_of.Goals as goal

pub is_of-requires : goal.is_of-requires
is_of-requires c = record { table_value = search lawful-shape; i_bound = c.requires }
