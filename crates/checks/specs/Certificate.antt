-- A certificate's checks: document 01, 'messages'. Assumes nothing.
use Rattle.std.specs.Prelude.{ℕ, ◌+◌, Bool, true, false, ◌&&◌, List, [], ◌∷◌, ◌++◌, eqb, leb}
use Rattle.wire.specs.Items.{first_of, has_part}
use Rattle.config.specs.Members.{members_of, some}
use Rattle.config.specs.Committee.{valid_members, total, quorum, stake_of}
use Rattle.messages.specs.Certificate.{header_of, voters_of, certificate_shape}
use Rattle.checks.specs.Answers.{ensure, and_then}
use Rattle.checks.specs.Header.{has_stake, header_checks}
use Rattle.refusal.specs.Answers.{Answer}
use Rattle.std.specs.Prelude.{Ok, Err}
use Rattle.refusal.specs.declared.Refusal.TheVariants.{BadCommittee, BadShape, UnknownAuthority, InvalidSignature, AuthorityReuse, CertificateRequiresQuorum}

-- whether a key is among some
unfoldable pub among : List ℕ → List (List ℕ) → Bool
among key seen = some (first_of (has_part 0 key) seen 0)

-- vote by vote 5 before 2: seen are the voters so far, and weight is their stake
unfoldable pub weighed : List (List ℕ) → List (List ℕ) → ℕ → List (List ℕ) → Answer
weighed ms seen weight [] = Ok weight
weighed ms seen weight (v ∷ vs) =
    elim (among v seen) [
      | true ↦ Err AuthorityReuse
      | false ↦ elim (has_stake ms v) [ true ↦ weighed ms (seen ++ (v ∷ [])) (weight + stake_of ms v) vs | false ↦ Err UnknownAuthority ]
    ]

-- the votes, then quorum 7, then batch 4
unfoldable pub votes_checks : List (List ℕ) → List ℕ → Bool → Answer
votes_checks ms c batch_ok =
    elim (weighed ms [] 0 (voters_of c)) [
      | Ok w ↦ ensure (leb (quorum (total ms)) w) CertificateRequiresQuorum (ensure batch_ok InvalidSignature (Ok 0))
      | Err e ↦ Err e
    ]

-- the header's checks, then the votes'
unfoldable pub certificate_checks : List (List ℕ) → List ℕ → Bool → Bool → Bool → Answer
certificate_checks ms c id_ok sig_ok batch_ok = and_then (header_checks ms (header_of c) id_ok sig_ok) (votes_checks ms c batch_ok)

-- 10, then 11, then the checks
unfoldable pub certificate_check : List ℕ → List ℕ → ℕ → ℕ → ℕ → Answer
certificate_check ms c id_ok sig_ok batch_ok =
    ensure (valid_members ms) BadCommittee
    (ensure (certificate_shape c && leb id_ok 1 && leb sig_ok 1 && leb batch_ok 1) BadShape
    (certificate_checks (members_of ms) c (eqb id_ok 1) (eqb sig_ok 1) (eqb batch_ok 1)))
