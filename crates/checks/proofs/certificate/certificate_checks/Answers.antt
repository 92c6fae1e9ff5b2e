use Rattle.checks.proofs.Laws.{certificate-headed-by, header_refused, header-passed}
use borrow.Author.Rules.{rules}
use Rattle.checks.proofs.certificate.certificate_checks.Goals as goal

pub invariant_of-header : goal.invariant_of-header
invariant_of-header c = record { shape = search (rules, certificate-headed-by) }

pub returns-in_default : goal.returns-in_default
returns-in_default c = search (rules, header_refused)

pub returns : goal.returns
returns c = search (rules, header-passed)
