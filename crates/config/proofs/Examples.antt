-- The definitions on both sides of each limit of document 01. Assumes nothing.
use mathlib.Core.Path.{◌≡◌, refl}
use mathlib.Core.Bool.{true, false}
use mathlib.Core.List.{List, [], ◌∷◌, ◌++◌}
use Prim.Native.Nat.{ℕ}
use lib.ListN.{replicate}
use Rattle.wire.specs.Bytes.{part, alike, less, word, bytes}
use Rattle.wire.specs.Items.{chunks, items, first_of, has_part, sum_of, all_of, key_of, keys, ascends, ascends_from}
use Rattle.config.specs.Members.{members_of, stake_in, worker_count, workers_in, is_worker, has_worker, lawful}
use Rattle.config.specs.Committee.{total, valid_members, valid_setup, depth_of, standing_of, stake_of, leader_place}
use Rattle.config.specs.Answers.{of_members, shaped_as, stake_answer, worker_of, worker_answer, leader_answer}
use Rattle.config.specs.Sample.{id_bytes, member_with, members_with}
use Rattle.std.specs.Prelude.{Ok, Err}
use Rattle.refusal.specs.declared.Refusal.TheVariants.{BadCommittee, BadShape}

abbrev three : List ℕ
three = members_with 1 (5 ∷ 6 ∷ 7 ∷ [])

pub record Limits : Type 0 where
  pub nobody : valid_members [] ≡ false
  pub one : valid_members (members_with 1 (1 ∷ [])) ≡ true
  pub byte-over : valid_members (members_with 1 (1 ∷ []) ++ (0 ∷ [])) ≡ false
  pub members-32 : valid_members (members_with 1 (replicate 32 1)) ≡ true
  pub members-33 : valid_members (members_with 1 (replicate 33 1)) ≡ false
  pub total-most : valid_members (members_with 1 (16777215 ∷ 1 ∷ [])) ≡ true
  pub total-over : valid_members (members_with 1 (16777215 ∷ 2 ∷ [])) ≡ false
  pub stake-0 : valid_members (members_with 1 (1 ∷ 0 ∷ 1 ∷ [])) ≡ false
  pub keys-equal : valid_members (members_with 1 (1 ∷ []) ++ members_with 1 (1 ∷ [])) ≡ false
  pub keys-falling : valid_members (members_with 2 (1 ∷ []) ++ members_with 1 (1 ∷ [])) ≡ false
  pub workers-8 : valid_members (member_with 1 1 (replicate 8 3)) ≡ true
  pub workers-9 : valid_members (replicate 32 0 ++ (bytes 4 1 ++ (9 ∷ replicate 32 0))) ≡ false
  pub depth-most : valid_setup (bytes 8 4294967295 ++ three) ≡ true
  pub depth-over : valid_setup (bytes 8 4294967296 ++ three) ≡ false
  pub depth-cut : valid_setup (replicate 7 0) ≡ false

pub limits : Limits
unfolding valid_members valid_setup depth_of members_of lawful stake_in worker_count total sum_of all_of key_of keys ascends ascends_from less part word bytes chunks items id_bytes member_with members_with
limits =
    record {
      nobody = refl;
      one = refl;
      byte-over = refl;
      members-32 = refl;
      members-33 = refl;
      total-most = refl;
      total-over = refl;
      stake-0 = refl;
      keys-equal = refl;
      keys-falling = refl;
      workers-8 = refl;
      workers-9 = refl;
      depth-most = refl;
      depth-over = refl;
      depth-cut = refl;
    }

pub record Looked : Type 0 where
  pub member : stake_answer three (2 ∷ replicate 31 0) ≡ Ok 6
  pub stranger : stake_answer three (4 ∷ replicate 31 0) ≡ Ok 0
  pub key-cut : stake_answer three (2 ∷ replicate 30 0) ≡ Err BadShape
  pub both-wrong : stake_answer [] (2 ∷ replicate 30 0) ≡ Err BadCommittee
  pub worker : worker_answer (member_with 1 1 (3 ∷ 258 ∷ [])) (1 ∷ replicate 31 0) 258 ≡ Ok 1
  pub past-the-count : worker_answer (member_with 1 1 (3 ∷ 258 ∷ [])) (1 ∷ replicate 31 0) 0 ≡ Ok 0
  pub worker-over : worker_answer (member_with 1 1 []) (1 ∷ replicate 31 0) 4294967296 ≡ Err BadShape
  pub leads : leader_answer three 7 ≡ Ok 1
  pub round-0 : leader_answer three 0 ≡ Err BadShape
  pub round-over : leader_answer three 4294967296 ≡ Err BadShape

pub looked : Looked
unfolding stake_answer worker_answer worker_of leader_answer of_members shaped_as standing_of stake_of leader_place first_of has_part has_worker workers_in is_worker alike valid_members members_of lawful stake_in worker_count total sum_of all_of key_of keys ascends ascends_from less part word bytes chunks items id_bytes member_with members_with
looked =
    record {
      member = refl;
      stranger = refl;
      key-cut = refl;
      both-wrong = refl;
      worker = refl;
      past-the-count = refl;
      worker-over = refl;
      leads = refl;
      round-0 = refl;
      round-over = refl;
    }
