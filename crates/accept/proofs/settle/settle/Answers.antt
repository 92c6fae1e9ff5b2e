use Rattle.accept.proofs.Settling.{course-clash, course-full, course-on}
use Rattle.accept.proofs.settle.settle.Goals as goal

pub returns-then-clashes : goal.returns-then-clashes
returns-then-clashes c = search course-clash

pub returns-then-not-has_place : goal.returns-then-not-has_place
returns-then-not-has_place c = search course-full

pub returns : goal.returns
returns c = search course-on
