-- A vote's checks: document 01, 'core', vote: 2, 4. Assumes nothing.
use Rattle.std.specs.Prelude.{ℕ, Bool, ◌&&◌, List, eqb, leb}
use Rattle.config.specs.Members.{members_of}
use Rattle.config.specs.Committee.{valid_members}
use Rattle.messages.specs.Vote.{vote_author, vote_shape}
use Rattle.checks.specs.Answers.{ensure}
use Rattle.checks.specs.Header.{has_stake}
use Rattle.refusal.specs.Answers.{Answer}
use Rattle.std.specs.Prelude.{Ok, Err}
use Rattle.refusal.specs.declared.Refusal.TheVariants.{BadCommittee, BadShape, UnknownAuthority, InvalidSignature}

-- author 2, signature 4
unfoldable pub vote_checks : List (List ℕ) → List ℕ → Bool → Answer
vote_checks ms v sig_ok = ensure (has_stake ms (vote_author v)) UnknownAuthority (ensure sig_ok InvalidSignature (Ok 0))

-- 10, then 11, then the checks
unfoldable pub vote_check : List ℕ → List ℕ → ℕ → Answer
vote_check ms v sig_ok =
    ensure (valid_members ms) BadCommittee (ensure (vote_shape v && leb sig_ok 1) BadShape (vote_checks (members_of ms) v (eqb sig_ok 1)))
