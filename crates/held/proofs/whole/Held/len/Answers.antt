use Rattle.table.proofs.Laws.{is-long}
use Rattle.held.proofs.Laws.{lawful-shape}
use Rattle.held.proofs.whole.Held.len.Goals as goal

pub count-requires : goal.count-requires
count-requires c = search (is-long, lawful-shape)
