use Rattle.aggregators.proofs.Certifying.{new-long, new-open, new-counted}
use Rattle.aggregators.proofs.certificates.count_in_new.Goals as goal

pub put_pair-requires : goal.put_pair-requires
put_pair-requires c = record { row_len = search new-long; row_bound = search new-open }

pub returns : goal.returns
returns c = search new-counted

pub invariant_of-give : goal.invariant_of-give
invariant_of-give c = record { few = search new-open }
