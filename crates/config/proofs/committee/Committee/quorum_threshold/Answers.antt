use Rattle.config.proofs.Laws.{valid-size, valid-weight, quorum-is}
use native.Mathlib.Omega.{arith}
use Rattle.config.proofs.committee.Committee.quorum_threshold.Goals as goal

pub total_stake-requires : goal.total_stake-requires
total_stake-requires c = search valid-size

pub overflow_mul-result : goal.overflow_mul-result
overflow_mul-result c = omega (arith, valid-weight c.args.self.now.members.now _ c.args.self.now.valid c.total_stake.ensures)

pub overflow_add-result : goal.overflow_add-result
overflow_add-result c = omega (arith, valid-weight c.args.self.now.members.now _ c.args.self.now.valid c.total_stake.ensures)

pub overflow_cast-result : goal.overflow_cast-result
overflow_cast-result c = omega (arith, valid-weight c.args.self.now.members.now _ c.args.self.now.valid c.total_stake.ensures)

pub returns : goal.returns
returns c = search quorum-is
