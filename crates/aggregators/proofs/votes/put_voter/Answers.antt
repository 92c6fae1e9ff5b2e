use Rattle.aggregators.proofs.Voting.{voters-long, voter-fits, voter-put}
use native.Mathlib.Omega.{arith}
use Rattle.aggregators.proofs.votes.put_voter.Goals as goal

pub voter_count-n-requires : goal.voter_count-n-requires
voter_count-n-requires c = search voters-long

pub put_bytes-requires : goal.put_bytes-requires
put_bytes-requires c = search voter-fits

pub bounds-voters-0 : goal.bounds-voters-0
bounds-voters-0 c = omega (arith, voters-long c.args.voters.now c.requires.voters_value)

pub returns : goal.returns
returns c = search voter-put
