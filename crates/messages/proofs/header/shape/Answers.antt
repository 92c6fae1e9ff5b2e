use Rattle.std.proofs.lemmas.Option.{MatchOption-at_some, MatchOption-at_none}
use Rattle.messages.proofs.Laws.{shape-long, shape-round, shape-parents, shape-payload, shape-rising, shape-last}
use Rattle.messages.proofs.header.shape.Goals as goal

pub returns-in_default : goal.returns-in_default
returns-in_default c = shape-long _ (MatchOption-at_none _ _ c.in_default.is c.as_array.ensures.cases)

pub returns-then-not-lawful_round : goal.returns-then-not-lawful_round
returns-then-not-lawful_round c = let f = MatchOption-at_some _ _ _ c.in-Some.is c.as_array.ensures.cases in rw (← f.same) (search shape-round)

pub returns-then-m-gt32 : goal.returns-then-m-gt32
returns-then-m-gt32 c = let f = MatchOption-at_some _ _ _ c.in-Some.is c.as_array.ensures.cases in rw (← f.same) (search shape-parents)

pub returns-then-k-gt64 : goal.returns-then-k-gt64
returns-then-k-gt64 c = let f = MatchOption-at_some _ _ _ c.in-Some.is c.as_array.ensures.cases in rw (← f.same) (search shape-payload)

pub returns-then-not-ascending : goal.returns-then-not-ascending
returns-then-not-ascending c = let f = MatchOption-at_some _ _ _ c.in-Some.is c.as_array.ensures.cases in rw (← f.same) (search shape-rising)

pub returns : goal.returns
returns c = let f = MatchOption-at_some _ _ _ c.in-Some.is c.as_array.ensures.cases in rw (← f.same) (search shape-last)
