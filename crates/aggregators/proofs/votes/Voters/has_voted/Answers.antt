use Rattle.aggregators.proofs.Voting.{voters-long, voters-fit, voted-is}
use borrow.Author.Rules.{rules}
use Rattle.aggregators.proofs.votes.Voters.has_voted.Goals as goal

pub voter_count-requires : goal.voter_count-requires
voter_count-requires c = search voters-long

pub has_key-requires : goal.has_key-requires
has_key-requires c = search (rules, voters-fit)

pub returns : goal.returns
returns c = search voted-is
