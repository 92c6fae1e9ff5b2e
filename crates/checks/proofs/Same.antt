-- Two answers that a check's promise allows are the same, for every input. Assumes nothing.
use mathlib.Core.Path.{◌≡◌, sym, ◌∙◌}
use mathlib.Core.List.{List}
use Prim.Native.Nat.{ℕ}
use Rattle.checks.specs.Header.{header_check}
use Rattle.checks.specs.Vote.{vote_check}
use Rattle.checks.specs.Certificate.{certificate_check}
use Rattle.refusal.specs.Answers.{Answer}

pub header-check-same : (ms h : List ℕ) (id_ok sig_ok : ℕ) (r r' : Answer) → r ≡ header_check ms h id_ok sig_ok → r' ≡ header_check ms h id_ok sig_ok → r ≡ r'
header-check-same ms h id_ok sig_ok r r' e e' = e ∙ sym e'

pub vote-check-same : (ms v : List ℕ) (sig_ok : ℕ) (r r' : Answer) → r ≡ vote_check ms v sig_ok → r' ≡ vote_check ms v sig_ok → r ≡ r'
vote-check-same ms v sig_ok r r' e e' = e ∙ sym e'

pub certificate-check-same : (ms c : List ℕ) (id_ok sig_ok batch_ok : ℕ) (r r' : Answer) → r ≡ certificate_check ms c id_ok sig_ok batch_ok → r' ≡ certificate_check ms c id_ok sig_ok batch_ok → r ≡ r'
certificate-check-same ms c id_ok sig_ok batch_ok r r' e e' = e ∙ sym e'
