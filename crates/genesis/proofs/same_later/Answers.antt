use Rattle.genesis.proofs.Laws.{later-fits, later-record, digest-fits, later-is}
use borrow.Author.Rules.{rules}
use Rattle.genesis.proofs.same_later.Goals as goal

pub digest-requires : goal.digest-requires
digest-requires c = search later-record

pub find-requires : goal.find-requires
find-requires c = search (rules, later-fits, digest-fits, later-record)

pub returns : goal.returns
returns c = search later-is
