use Rattle.messages.proofs.Laws.{round-low, round-high}
use Rattle.messages.proofs.header.lawful_round.Goals as goal

pub returns-then-round-lt1 : goal.returns-then-round-lt1
returns-then-round-lt1 c = search round-low

pub returns : goal.returns
returns c = search round-high
