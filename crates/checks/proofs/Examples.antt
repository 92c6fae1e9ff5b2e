-- The checks' order on small messages: where several refusals are due, the first is given. Assumes nothing.
use mathlib.Core.Path.{◌≡◌, refl}
use mathlib.Core.List.{List, [], ◌∷◌, ◌++◌}
use Prim.Native.Nat.{ℕ}
use Rattle.wire.specs.Bytes.{part, alike, less, word, bytes}
use Rattle.wire.specs.Items.{chunks, items, first_of, has_part, sum_of, all_of, key_of, keys, ascends, ascends_from}
use Rattle.config.specs.Members.{members_of, stake_in, worker_count, workers_in, is_worker, has_worker, lawful}
use Rattle.config.specs.Committee.{total, quorum, valid_members, standing_of, stake_of}
use Rattle.config.specs.Sample.{id_bytes, member_with, members_with}
use Rattle.messages.specs.Header.{author_of, round_of, parent_count, payload_count, parents_of, payload_of, worker_in, lawful_round, header_shape}
use Rattle.messages.specs.Vote.{vote_author, vote_round, vote_shape}
use Rattle.messages.specs.Certificate.{header_of, vote_count, voters_of, certificate_shape}
use Rattle.messages.specs.Sample.{keys_with, payload_with, header_with, vote_with, certificate_with}
use Rattle.checks.specs.Answers.{ensure, and_then}
use Rattle.checks.specs.Header.{has_stake, works_for, workers_known, header_checks, header_check}
use Rattle.checks.specs.Vote.{vote_checks, vote_check}
use Rattle.checks.specs.Certificate.{among, weighed, votes_checks, certificate_checks, certificate_check}
use Rattle.std.specs.Prelude.{Ok, Err}
use Rattle.refusal.specs.declared.Refusal.TheVariants.{BadCommittee, BadShape, InvalidHeaderId, UnknownAuthority, MalformedHeader, InvalidSignature, AuthorityReuse, CertificateRequiresQuorum}

-- member 1 has the workers 3 and 258, the members 2, 3 and 4 have none; each has stake 1, so quorum is 3
abbrev four : List ℕ
four = member_with 1 1 (3 ∷ 258 ∷ []) ++ members_with 2 (1 ∷ 1 ∷ 1 ∷ [])

abbrev good : List ℕ
good = header_with 1 7 (5 ∷ 6 ∷ []) 3 (258 ∷ 3 ∷ [])

abbrev strange : List ℕ
strange = header_with 9 7 [] 3 (258 ∷ [])

abbrev wrong_worker : List ℕ
wrong_worker = header_with 1 7 [] 3 (3 ∷ 4 ∷ [])

pub record Headers : Type 0 where
  pub right : header_check four good 1 1 ≡ Ok 0
  pub id-before-author : header_check four strange 0 0 ≡ Err InvalidHeaderId
  pub author-before-workers : header_check four strange 1 0 ≡ Err UnknownAuthority
  pub workers-before-signature : header_check four wrong_worker 1 0 ≡ Err MalformedHeader
  pub signature : header_check four good 1 0 ≡ Err InvalidSignature
  pub others-worker : header_check four (header_with 2 7 [] 3 (3 ∷ [])) 1 1 ≡ Err MalformedHeader
  pub no_payload : header_check four (header_with 2 7 [] 3 []) 1 1 ≡ Ok 0
  pub verdict-2 : header_check four strange 0 2 ≡ Err BadShape
  pub round-0 : header_check four (header_with 9 0 [] 3 []) 0 0 ≡ Err BadShape
  pub both-wrong : header_check [] (header_with 9 0 [] 3 []) 0 0 ≡ Err BadCommittee

pub headers : Headers
unfolding header_check header_checks ensure has_stake works_for workers_known standing_of stake_of first_of has_part has_worker workers_in is_worker alike valid_members members_of lawful stake_in worker_count total sum_of all_of key_of keys ascends ascends_from less part word bytes chunks items id_bytes member_with members_with keys_with payload_with header_with header_shape lawful_round author_of round_of parent_count payload_count parents_of payload_of worker_in
headers =
    record {
      right = refl;
      id-before-author = refl;
      author-before-workers = refl;
      workers-before-signature = refl;
      signature = refl;
      others-worker = refl;
      no_payload = refl;
      verdict-2 = refl;
      round-0 = refl;
      both-wrong = refl;
    }

pub record Votes : Type 0 where
  pub right : vote_check four (vote_with 1 2 7) 1 ≡ Ok 0
  pub author-before-signature : vote_check four (vote_with 1 9 7) 0 ≡ Err UnknownAuthority
  pub signature : vote_check four (vote_with 1 2 7) 0 ≡ Err InvalidSignature
  pub round-0 : vote_check four (vote_with 1 9 0) 0 ≡ Err BadShape

pub votes : Votes
unfolding vote_check vote_checks ensure has_stake standing_of stake_of first_of has_part alike valid_members members_of lawful stake_in worker_count total sum_of all_of key_of keys ascends ascends_from less part word bytes chunks items id_bytes member_with members_with vote_with vote_shape vote_author vote_round lawful_round
votes = record { right = refl; author-before-signature = refl; signature = refl; round-0 = refl }

pub record Certificates : Type 0 where
  pub right : certificate_check four (certificate_with good (4 ∷ 1 ∷ 2 ∷ [])) 1 1 1 ≡ Ok 0
  pub header-first : certificate_check four (certificate_with strange (1 ∷ 1 ∷ [])) 1 0 0 ≡ Err UnknownAuthority
  pub header-signature-first : certificate_check four (certificate_with good (1 ∷ 1 ∷ [])) 1 0 0 ≡ Err InvalidSignature
  pub twice : certificate_check four (certificate_with good (1 ∷ 2 ∷ 1 ∷ 9 ∷ [])) 1 1 0 ≡ Err AuthorityReuse
  pub stranger : certificate_check four (certificate_with good (1 ∷ 9 ∷ 1 ∷ [])) 1 1 0 ≡ Err UnknownAuthority
  pub stranger-twice : certificate_check four (certificate_with good (9 ∷ 9 ∷ [])) 1 1 0 ≡ Err UnknownAuthority
  pub votes-before-quorum : certificate_check four (certificate_with good (1 ∷ 9 ∷ [])) 1 1 0 ≡ Err UnknownAuthority
  pub quorum-before-batch : certificate_check four (certificate_with good (1 ∷ 2 ∷ [])) 1 1 0 ≡ Err CertificateRequiresQuorum
  pub batch : certificate_check four (certificate_with good (1 ∷ 2 ∷ 3 ∷ [])) 1 1 0 ≡ Err InvalidSignature
  pub verdict-2 : certificate_check four (certificate_with strange []) 0 0 2 ≡ Err BadShape

pub certificates : Certificates
unfolding certificate_check certificate_checks votes_checks weighed among header_checks and_then ensure has_stake works_for workers_known quorum standing_of stake_of first_of has_part has_worker workers_in is_worker alike valid_members members_of lawful stake_in worker_count total sum_of all_of key_of keys ascends ascends_from less part word bytes chunks items id_bytes member_with members_with keys_with payload_with header_with certificate_with header_shape certificate_shape lawful_round author_of round_of parent_count payload_count parents_of payload_of worker_in header_of vote_count voters_of
certificates =
    record {
      right = refl;
      header-first = refl;
      header-signature-first = refl;
      twice = refl;
      stranger = refl;
      stranger-twice = refl;
      votes-before-quorum = refl;
      quorum-before-batch = refl;
      batch = refl;
      verdict-2 = refl;
    }
