use Rattle.checks.proofs.Laws.{id_wrong, author-unknown, workers-unknown, signature-wrong, header-good}
use Rattle.checks.proofs.header.header_checks.Goals as goal

pub returns-then-not-id_ok : goal.returns-then-not-id_ok
returns-then-not-id_ok c = search id_wrong

pub returns-then-stake-eq0 : goal.returns-then-stake-eq0
returns-then-stake-eq0 c = search author-unknown

pub returns-then-not-workers_known : goal.returns-then-not-workers_known
returns-then-not-workers_known c = search workers-unknown

pub returns-then-not-sig_ok : goal.returns-then-not-sig_ok
returns-then-not-sig_ok c = search signature-wrong

pub returns : goal.returns
returns c = search header-good
