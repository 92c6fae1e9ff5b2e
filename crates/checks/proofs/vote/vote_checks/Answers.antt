use Rattle.checks.proofs.Laws.{vote-unknown, vote-unsigned, vote-good}
use Rattle.checks.proofs.vote.vote_checks.Goals as goal

pub returns-then-stake-eq0 : goal.returns-then-stake-eq0
returns-then-stake-eq0 c = search vote-unknown

pub returns-then-not-sig_ok : goal.returns-then-not-sig_ok
returns-then-not-sig_ok c = search vote-unsigned

pub returns : goal.returns
returns c = search vote-good
