use Rattle.proposer.proofs.Values.{valid-size, valid-round, valid-parents, valid-last}
use Rattle.proposer.proofs.state.is_state.Goals as goal

pub returns-in_default : goal.returns-in_default
returns-in_default c = valid-size _ c.in_default.ensures.cases

pub returns-then-round-lt1 : goal.returns-then-round-lt1
returns-then-round-lt1 c = let w = c.in-Some.ensures.cases in search valid-round

pub returns-then-parent_count-gt32 : goal.returns-then-parent_count-gt32
returns-then-parent_count-gt32 c = let w = c.in-Some.ensures.cases in search valid-parents

pub returns : goal.returns
returns c = let w = c.in-Some.ensures.cases in search valid-last
