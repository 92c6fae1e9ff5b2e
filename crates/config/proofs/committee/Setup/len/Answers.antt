use Rattle.config.proofs.Laws.{valid-setup}
use Rattle.config.proofs.committee.Setup.len.Goals as goal

pub overflow_sub-result : goal.overflow_sub-result
overflow_sub-result c = (valid-setup _ c.args.self.now.valid).long
