use Rattle.std.proofs.Common.{rules}
use Rattle.checks.proofs.Votes.{votes_wrong, votes-few, votes-unsigned, votes-good}
use Rattle.checks.proofs.certificate.votes_checks.Goals as goal

pub returns-in_err-weight : goal.returns-in_err-weight
returns-in_err-weight c = search (rules, votes_wrong)

pub returns-then-weight-quorum_threshold : goal.returns-then-weight-quorum_threshold
returns-then-weight-quorum_threshold c = search (rules, votes-few)

pub returns-then-not-batch_ok : goal.returns-then-not-batch_ok
returns-then-not-batch_ok c = search (rules, votes-unsigned)

pub returns : goal.returns
returns c = search (rules, votes-good)
