use borrow.Author.Rules.{rules}
use Rattle.update.proofs.Laws.{entering-start, entering-done, entering-room, entering-next}
use Rattle.update.proofs.entries.put_list.Goals as goal

pub loop-i-init : goal.loop-i-init
loop-i-init c = search entering-start

pub put_entry-requires : goal.put_entry-requires
put_entry-requires c = search (rules, entering-room)

pub loop-i-preserved : goal.loop-i-preserved
loop-i-preserved c = search entering-next

pub returns : goal.returns
returns c = search entering-done
