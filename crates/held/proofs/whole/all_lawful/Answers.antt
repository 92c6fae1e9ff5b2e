use Rattle.std.proofs.Common.{rules}
use borrow.Author.Tests.{tests}
use Rattle.wire.proofs.Chains.{all-passed}
use Rattle.table.proofs.Laws.{yields-rows}
use Rattle.held.proofs.whole.all_lawful.Goals as goal

pub returns : goal.returns
returns c = all-passed _ _ c.all.ensures.ran (yields-rows _ _ c.requires c.rows.ensures.rest c.rows.ensures.size) (λ x b q k. search (rules, tests))
