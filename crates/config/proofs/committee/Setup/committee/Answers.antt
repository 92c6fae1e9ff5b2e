use Rattle.config.proofs.Laws.{valid-setup}
use Rattle.config.proofs.committee.Setup.committee.Goals as goal

pub members_of-requires : goal.members_of-requires
members_of-requires c = (valid-setup _ c.args.self.now.valid).long

pub invariant_of-result : goal.invariant_of-result
invariant_of-result c = record { valid = rw c.members_of.ensures (valid-setup _ c.args.self.now.valid).members }
