use Rattle.proposer.proofs.Values.{is_state}
use Rattle.proposer.proofs.Outcomes.{settled-not, settled-made}
use Rattle.proposer.proofs.events.settle.Goals as goal

pub whole-bytes-requires : goal.whole-bytes-requires
whole-bytes-requires c = (is_state _ c.requires.state_value).size

pub empty-requires : goal.empty-requires
empty-requires c = (is_state _ c.requires.state_value).size

pub returns-then-not-is_due : goal.returns-then-not-is_due
returns-then-not-is_due c = let e = rw c.whole-bytes.ensures at c.is_due.ensures in search settled-not

pub fill_header-requires : goal.fill_header-requires
fill_header-requires c = record { state_value = rw c.whole-bytes.ensures c.requires.state_value; header_len = c.requires.header_len }

pub returns : goal.returns
returns c =
    let e = rw c.whole-bytes.ensures at c.is_due.ensures in
    let h = rw c.whole-bytes.ensures at c.fill_header.ensures in
    search settled-made
