-- A header's checks: document 01, 'messages'. Assumes nothing.
use Rattle.std.specs.Prelude.{ℕ, Bool, false, ◌&&◌, List, [], get_or, eqb, ltb, leb}
use Rattle.wire.specs.Items.{all_of}
use Rattle.config.specs.Members.{members_of, has_worker}
use Rattle.config.specs.Committee.{valid_members, standing_of, stake_of}
use Rattle.std.specs.Prelude.{Some, None}
use Rattle.messages.specs.Header.{author_of, payload_of, worker_in, header_shape}
use Rattle.checks.specs.Answers.{ensure}
use Rattle.refusal.specs.Answers.{Answer}
use Rattle.std.specs.Prelude.{Ok, Err}
use Rattle.refusal.specs.declared.Refusal.TheVariants.{BadCommittee, BadShape, InvalidHeaderId, UnknownAuthority, MalformedHeader, InvalidSignature}

-- whether a key has voting rights
unfoldable pub has_stake : List (List ℕ) → List ℕ → Bool
has_stake ms key = ltb 0 (stake_of ms key)

-- whether a member has a worker of a payload item's id
unfoldable pub works_for : List ℕ → List ℕ → Bool
works_for member p = has_worker (worker_in p) member

-- whether the author has a worker of each payload item's id
unfoldable pub workers_known : List (List ℕ) → List ℕ → Bool
workers_known ms h =
    elim (standing_of ms (author_of h)) [ Some m ↦ all_of (works_for (get_or ms m.place [])) (payload_of h) | None ↦ false ]

-- id 1, author 2, workers 3, signature 4
unfoldable pub header_checks : List (List ℕ) → List ℕ → Bool → Bool → Answer
header_checks ms h id_ok sig_ok =
    ensure id_ok InvalidHeaderId
    (ensure (has_stake ms (author_of h)) UnknownAuthority
    (ensure (workers_known ms h) MalformedHeader (ensure sig_ok InvalidSignature (Ok 0))))

-- 10, then 11, then the checks. A verdict is 1 for yes and 0 for no
unfoldable pub header_check : List ℕ → List ℕ → ℕ → ℕ → Answer
header_check ms h id_ok sig_ok =
    ensure (valid_members ms) BadCommittee
    (ensure (header_shape h && leb id_ok 1 && leb sig_ok 1) BadShape (header_checks (members_of ms) h (eqb id_ok 1) (eqb sig_ok 1)))
