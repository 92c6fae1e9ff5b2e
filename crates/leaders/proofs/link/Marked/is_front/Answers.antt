use Rattle.leaders.proofs.Linking.{front-unmarked, front-marked}
use Rattle.leaders.proofs.link.Marked.is_front.Goals as goal

pub returns-then-self-i-eq0 : goal.returns-then-self-i-eq0
returns-then-self-i-eq0 c = search front-unmarked

pub returns : goal.returns
returns c = search front-marked
