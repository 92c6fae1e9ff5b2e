use mathlib.Core.Path.{refl}
use Rattle.messages.specs.Certificate.{vote_count}
use Rattle.messages.proofs.certificate.vote_count.Goals as goal

pub returns : goal.returns
unfolding vote_count
returns c = refl
