use Rattle.proposer.proofs.Outcomes.{digest-short, digest-worker, digest-full, digest-taken, digest-state}
use Rattle.proposer.proofs.events.on_digest.Goals as goal

pub returns-in_default : goal.returns-in_default
returns-in_default c = digest-short _ _ _ _ _ _ c.in_default.ensures.cases

pub returns-then-worker-gt4294967295 : goal.returns-then-worker-gt4294967295
returns-then-worker-gt4294967295 c = let w = c.in-Some.ensures.cases in search digest-worker

pub returns-then-waiting_count-ge64 : goal.returns-then-waiting_count-ge64
returns-then-waiting_count-ge64 c = let w = c.in-Some.ensures.cases in search digest-full

pub settle-requires : goal.settle-requires
settle-requires c = let w = c.in-Some.ensures.cases in search digest-state

pub returns : goal.returns
returns c = let w = c.in-Some.ensures.cases in search digest-taken
