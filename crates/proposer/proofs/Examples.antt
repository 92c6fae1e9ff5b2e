-- The definitions of `specs/` run: order, size, events, with document 01's bounds. The laws' files bring this one, so that a definition is held to its cases
-- first. Assumes nothing.
use mathlib.Core.Path.{◌≡◌, refl}
use mathlib.Core.Bool.{true, false}
use mathlib.Core.List.{List, [], ◌∷◌, ◌++◌}
use Prim.Native.Nat.{ℕ}
use lib.ListN.{replicate}
use Rattle.wire.specs.Bytes.{part, alike, less, splice, word, bytes}
use Rattle.wire.specs.Items.{chunks, items, flat, key_of, keys, ascends, ascends_from, first_of, has_part, sum_of, all_of}
use Rattle.config.specs.Members.{members_of, stake_in, worker_count, lawful}
use Rattle.config.specs.Committee.{total, valid_members, standing_of}
use Rattle.genesis.specs.Genesis.{record_round, record_origin, record_digest, records_of, belongs, paired, distinct, valid_genesis}
use Rattle.proposer.specs.Sorted.{not_below, put_in, sorted_from, sorted_once}
use Rattle.proposer.specs.State.{zeros, own_in, round_in, parent_count, waiting_count, parents_in, waiting_in, payload_size, valid_state, due_header, next_round, advanced, added, emptied, digests_of}
use Rattle.proposer.specs.Header.{with_list, header_of, header_made}
use Rattle.proposer.specs.Events.{After, settled, received, valid_parents, parents_after, valid_digest, digest_after, valid_call, by_tag, event_after}
use Rattle.proposer.specs.Start.{digests_in, started, valid_start, start_after}
use Rattle.std.specs.Prelude.{Ok, Err}
use Rattle.refusal.specs.declared.Refusal.TheVariants.{BadCommittee, BadShape, NoRoom}

-- a digest, and one with a worker id
abbrev digest : ℕ → List ℕ
digest v = replicate 32 v

abbrev batch : ℕ → ℕ → List ℕ
batch v w = digest v ++ bytes 4 w

-- round 5, with two parents out of order; and the same with a digest that came twice
abbrev five : List ℕ
five = advanced (splice (zeros 3366) 0 (digest 9)) 4 (digest 3 ∷ digest 1 ∷ [])

abbrev twice : List ℕ
twice = added (added five (digest 2) 7) (digest 2) 8

-- 63 and 64 digests wait
abbrev sixty-three : List ℕ
sixty-three = splice five 37 (63 ∷ [])

abbrev sixty-four : List ℕ
sixty-four = splice five 37 (64 ∷ [])

abbrev buffer : List ℕ
buffer = zeros 3402

pub record Order : Type 0 where
  pub ascending : sorted_once (digest 3 ∷ digest 1 ∷ digest 2 ∷ []) ≡ digest 1 ∷ digest 2 ∷ digest 3 ∷ []
  pub once : sorted_once (digest 3 ∷ digest 1 ∷ digest 3 ∷ digest 1 ∷ []) ≡ digest 1 ∷ digest 3 ∷ []
  pub later-worker : sorted_once (batch 2 7 ∷ batch 1 5 ∷ batch 2 8 ∷ []) ≡ batch 1 5 ∷ batch 2 8 ∷ []

pub order : Order
unfolding sorted_once sorted_from put_in not_below less alike key_of part bytes
order = record { ascending = refl; once = refl; later-worker = refl }

pub record States : Type 0 where
  pub valid : valid_state five ≡ true
  pub round : round_in five ≡ 5
  pub as-given : parents_in five ≡ digest 3 ∷ digest 1 ∷ []
  pub in_order : waiting_in twice ≡ batch 2 7 ∷ batch 2 8 ∷ []
  pub repeats-counted : payload_size twice ≡ 64
  pub large-enough : due_header 64 0 twice ≡ true
  pub too_small : due_header 65 0 twice ≡ false
  pub timer : due_header 65 1 twice ≡ true
  pub no-parents : due_header 0 1 (emptied twice) ≡ false
  pub nothing-waits : payload_size (emptied twice) ≡ 0
  pub round-0 : valid_state (zeros 3366) ≡ false

pub states : States
unfolding zeros splice part word bytes chunks items flat less alike key_of not_below put_in sorted_from sorted_once round_in parent_count waiting_count parents_in waiting_in payload_size valid_state due_header next_round advanced added emptied
states =
    record {
      valid = refl;
      round = refl;
      as-given = refl;
      in_order = refl;
      repeats-counted = refl;
      large-enough = refl;
      too_small = refl;
      timer = refl;
      no-parents = refl;
      nothing-waits = refl;
      round-0 = refl;
    }

abbrev event : ℕ → ℕ → List ℕ → List ℕ → ℕ → ℕ → List ℕ → After
event tag p parents d size timer s = event_after tag p parents d 0 size timer s buffer

pub record Told : Type 0 where
  pub below-dropped : received 4 (digest 6) five ≡ five
  pub dropped-makes : (event 1 4 (digest 6) [] 0 0 five).answer ≡ Ok 1
  pub current-taken : round_in (received 5 (digest 6) five) ≡ 6
  pub replaced : parents_in (received 5 (digest 6) five) ≡ digest 6 ∷ []
  pub empty-replaces : (event 1 5 [] [] 0 1 five).answer ≡ Ok 0
  pub last-round : round_in (received 4294967294 [] five) ≡ 4294967295
  pub past-last : (event 1 4294967295 [] [] 0 0 five).answer ≡ Err BadShape
  pub parents-32 : (event 1 5 (replicate 1024 0) [] 1 0 five).answer ≡ Ok 0
  pub parents-33 : (event 1 0 (replicate 1056 0) [] 1 0 five).answer ≡ Err BadShape
  pub parent-cut : (event 1 5 (replicate 31 0) [] 1 0 five).answer ≡ Err BadShape
  pub digest-64 : (event 2 0 [] (digest 1) 4294967295 0 sixty-three).answer ≡ Ok 0
  pub digest-65 : (event 2 0 [] (digest 1) 0 1 sixty-four).answer ≡ Err NoRoom
  pub digest-cut : (event 2 0 [] (replicate 31 0) 0 1 sixty-four).answer ≡ Err BadShape
  pub not-looked-at : (event 3 4294967295 (1 ∷ []) (1 ∷ []) 65 0 twice).answer ≡ Ok 0
  pub timer-out : (event 3 0 [] [] 65 1 twice).answer ≡ Ok 1
  pub timer-2 : (event 3 0 [] [] 65 2 twice).answer ≡ Err BadShape
  pub size-most : (event 3 0 [] [] 4294967295 1 twice).answer ≡ Ok 1
  pub size-over : (event 3 0 [] [] 4294967296 1 twice).answer ≡ Err BadShape
  pub tag-0 : (event 0 0 [] [] 0 1 twice).answer ≡ Err BadShape
  pub tag-4 : (event 4 0 [] [] 0 1 twice).answer ≡ Err BadShape
  pub emptied-then : parents_in (event 3 0 [] [] 65 1 twice).state ≡ []
  pub next-round : round_in (event 3 0 [] [] 65 1 twice).state ≡ 5
  pub id-zero : part (event 3 0 [] [] 65 1 twice).header 0 32 ≡ digest 0
  pub author : part (event 3 0 [] [] 65 1 twice).header 32 32 ≡ digest 9
  pub for-round : part (event 3 0 [] [] 65 1 twice).header 64 10 ≡ 5 ∷ 0 ∷ 0 ∷ 0 ∷ 0 ∷ 0 ∷ 0 ∷ 0 ∷ 2 ∷ 1 ∷ []
  pub parents : items 32 (event 3 0 [] [] 65 1 twice).header 74 3 ≡ digest 1 ∷ digest 3 ∷ digest 0 ∷ []
  pub payload : items 36 (event 3 0 [] [] 65 1 twice).header 1098 2 ≡ batch 2 8 ∷ batch 0 0 ∷ []

pub told : Told
unfolding zeros splice part word bytes chunks items flat less alike key_of not_below put_in sorted_from sorted_once own_in round_in parent_count waiting_count parents_in waiting_in payload_size valid_state due_header next_round advanced added emptied digests_of with_list header_of header_made settled received valid_parents parents_after valid_digest digest_after valid_call by_tag event_after
told =
    record {
      below-dropped = refl;
      dropped-makes = refl;
      current-taken = refl;
      replaced = refl;
      empty-replaces = refl;
      last-round = refl;
      past-last = refl;
      parents-32 = refl;
      parents-33 = refl;
      parent-cut = refl;
      digest-64 = refl;
      digest-65 = refl;
      digest-cut = refl;
      not-looked-at = refl;
      timer-out = refl;
      timer-2 = refl;
      size-most = refl;
      size-over = refl;
      tag-0 = refl;
      tag-4 = refl;
      emptied-then = refl;
      next-round = refl;
      id-zero = refl;
      author = refl;
      for-round = refl;
      parents = refl;
      payload = refl;
    }

-- one member without workers, and its genesis
abbrev member : List ℕ
member = digest 9 ++ (bytes 4 1 ++ (0 ∷ replicate 32 0))

abbrev genesis : List ℕ
genesis = bytes 4 0 ++ (digest 9 ++ digest 5)

abbrev start : List ℕ → List ℕ → List ℕ → ℕ → After
start members own records size = start_after members own records size 0 (replicate 3366 7) (replicate 3402 7)

pub record Starts : Type 0 where
  pub at_once : (start member (digest 9) genesis 0).answer ≡ Ok 1
  pub round-1 : round_in (start member (digest 9) genesis 0).state ≡ 1
  pub header : items 32 (start member (digest 9) genesis 0).header 74 1 ≡ digest 5 ∷ []
  pub waits : (start member (digest 9) genesis 1).answer ≡ Ok 0
  pub genesis-parents : parents_in (start member (digest 9) genesis 1).state ≡ digest 5 ∷ []
  pub none-waiting : waiting_in (start member (digest 9) genesis 1).state ≡ []
  pub stranger : (start member (digest 8) genesis 0).answer ≡ Err BadCommittee
  pub own-cut : (start member (replicate 31 9) genesis 0).answer ≡ Err BadShape
  pub both-wrong : (start [] (replicate 31 9) genesis 0).answer ≡ Err BadCommittee
  pub other-genesis : (start member (digest 9) (bytes 4 0 ++ (digest 8 ++ digest 5)) 0).answer ≡ Err BadShape
  pub genesis-round-1 : (start member (digest 9) (bytes 4 1 ++ (digest 9 ++ digest 5)) 0).answer ≡ Err BadShape
  pub no-genesis : (start member (digest 9) [] 0).answer ≡ Err BadShape

pub starts : Starts
unfolding zeros splice part word bytes chunks items flat less alike key_of keys ascends ascends_from first_of has_part sum_of all_of not_below put_in sorted_from sorted_once own_in round_in parent_count waiting_count parents_in waiting_in payload_size due_header next_round advanced emptied with_list header_of header_made settled members_of stake_in worker_count lawful total valid_members standing_of record_round record_origin record_digest records_of belongs paired distinct valid_genesis digests_in started valid_start start_after
starts =
    record {
      at_once = refl;
      round-1 = refl;
      header = refl;
      waits = refl;
      genesis-parents = refl;
      none-waiting = refl;
      stranger = refl;
      own-cut = refl;
      both-wrong = refl;
      other-genesis = refl;
      genesis-round-1 = refl;
      no-genesis = refl;
    }
