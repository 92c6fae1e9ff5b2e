use Rattle.aggregators.proofs.Giving.{given-put}
use Rattle.aggregators.proofs.certificates.put_given.Goals as goal

pub returns : goal.returns
returns c = search given-put
