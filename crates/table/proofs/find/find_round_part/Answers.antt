use Rattle.std.proofs.Common.{rules}
use borrow.Author.Tests.{tests}
use Rattle.wire.proofs.Chains.{first-found}
use Rattle.table.proofs.Laws.{yields-rows}
use Rattle.table.proofs.find.find_round_part.Goals as goal

pub returns : goal.returns
returns c = first-found _ _ c.position.ensures.ran (yields-rows _ _ c.requires.table_value c.rows.ensures.rest c.rows.ensures.size) (λ x b q k. search (rules, tests))
