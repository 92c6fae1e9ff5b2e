use borrow.Author.Rules.{rules}
use Rattle.leaders.proofs.Agreeing.{setup-some}
use Rattle.leaders.proofs.Scanning.{turn-is}
use Rattle.leaders.proofs.view.View.turn.Goals as goal

pub leader_place-requires : goal.leader_place-requires
leader_place-requires c = let v = c.args.self.now.setup.valid in search (rules, setup-some)

pub returns : goal.returns
returns c = search turn-is
