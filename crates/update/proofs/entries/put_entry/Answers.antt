use Rattle.update.proofs.Laws.{entry-put}
use Rattle.update.proofs.entries.put_entry.Goals as goal

pub returns : goal.returns
returns c = search entry-put
