use Rattle.genesis.proofs.Laws.{digest-fits}
use Rattle.synchronizer.proofs.Laws.{is_known, no_place, is-new}
use borrow.Author.Rules.{rules}
use Rattle.synchronizer.proofs.known.known_as.Goals as goal

pub find_part-requires : goal.find_part-requires
find_part-requires c = search (rules, digest-fits)

pub returns-in-Some : goal.returns-in-Some
returns-in-Some c = search is_known

pub returns-then-not-room : goal.returns-then-not-room
returns-then-not-room c = search no_place

pub returns : goal.returns
returns c = search is-new
