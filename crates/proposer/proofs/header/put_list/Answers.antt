use Rattle.proposer.proofs.Making.{whole-few, list-is}
use Rattle.proposer.proofs.header.put_list.Goals as goal

pub put_count-requires-clause-n_bound : goal.put_count-requires-clause-n_bound
put_count-requires-clause-n_bound c = search whole-few

pub returns : goal.returns
returns c = search list-is
