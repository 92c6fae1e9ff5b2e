use mathlib.Core.Path.{refl, sym, ◌∙◌}
use native.Mathlib.Omega.{arith}
use borrow.Author.Rules.{rules}
use Rattle.std.proofs.lemmas.Iterator.{YieldsList-from_range}
use Rattle.std.proofs.lemmas.Iterator.Adapters.{option_map_id}
use Rattle.std.proofs.lemmas.Iterator.Consumers.{YieldsList-at, YieldsList-from_filter_map, max_from_yields_List}
use Rattle.consensus.specs.Table.{cert_at}
use Rattle.held.specs.Rows.{held_of}
use Rattle.leaders.specs.Setup.{agreed_of}
use Rattle.leaders.proofs.Scanning.{next-found, round_in}
use Rattle.leaders.proofs.view.View.next_round.Goals as goal

pub returns : goal.returns
returns c =
    let p =
    next-found (agreed_of c.args.self.now.setup.bytes.now) c.args.self.now.held.table.now c.args.low c.args.r c.len.result c.max.result c.len.ensures
    (sym (option_map_id _)
    ∙ max_from_yields_List c.filter_map.result _ c.max.ensures.ran
    (YieldsList-from_filter_map _ (λ i. round_in (agreed_of c.args.self.now.setup.bytes.now) c.args.low c.args.r (cert_at (held_of c.args.self.now.held.table.now) i)) (YieldsList-at c.filter_map.ensures.source (YieldsList-from_range 0 c.len.result c.len.result refl (omega arith))) c.filter_map.ensures.closure (λ x r q k. search rules))) in
    record { value = p.0; floor = p.1 }
