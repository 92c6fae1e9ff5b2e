use Rattle.config.proofs.Replies.{no_member, worker-fits, worker-reach, worker-few, worker-is}
use Rattle.config.proofs.answers.known_worker.Goals as goal

pub returns-in_default : goal.returns-in_default
returns-in_default c = search no_member

pub item-row-requires : goal.item-row-requires
item-row-requires c = let v = c.args.committee.now.valid in search worker-fits

pub has_worker-requires : goal.has_worker-requires
has_worker-requires c = let v = c.args.committee.now.valid in search (worker-reach, worker-few)

pub returns : goal.returns
returns c = let v = c.args.committee.now.valid in search worker-is
