use Rattle.accept.proofs.Shaping.{certificate-origin, certificate-digest, certificate-0, certificate-high, certificate-parents}
use Rattle.accept.proofs.shape.is_certificate.Goals as goal

pub returns-then-origin-ne32 : goal.returns-then-origin-ne32
returns-then-origin-ne32 c = search certificate-origin

pub returns-then-digest-ne32 : goal.returns-then-digest-ne32
returns-then-digest-ne32 c = search certificate-digest

pub returns-then-round-lt1 : goal.returns-then-round-lt1
returns-then-round-lt1 c = search certificate-0

pub returns-then-round-gt4294967295 : goal.returns-then-round-gt4294967295
returns-then-round-gt4294967295 c = search certificate-high

pub returns : goal.returns
returns c = search certificate-parents
