use borrow.Author.Rules.{rules}
use Rattle.std.proofs.iter.runs.Sources.{ranges}
use Rattle.held.proofs.Laws.{highest-is}
use Rattle.held.proofs.state.highest.Goals as goal

pub returns : goal.returns
returns c = highest-is c.args.state.now c.max.result _ (search (rules, ranges)) (search (rules, ranges)) c.unwrap_or.ensures
