use Rattle.aggregators.proofs.Voting.{voters-long, voters-fit, votes-weight-is}
use borrow.Author.Rules.{rules}
use Rattle.aggregators.proofs.votes.Voters.votes_weight.Goals as goal

pub voter_count-n-requires : goal.voter_count-n-requires
voter_count-n-requires c = search voters-long

pub count_keys-t-requires : goal.count_keys-t-requires
count_keys-t-requires c = search (rules, voters-fit)

pub returns : goal.returns
returns c = search votes-weight-is
