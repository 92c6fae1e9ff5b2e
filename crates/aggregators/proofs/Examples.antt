-- Small runs of the definitions, on both sides of each limit. Assumes nothing.
use mathlib.Core.Path.{◌≡◌, refl}
use mathlib.Core.List.{List, [], ◌∷◌, ◌++◌}
use Prim.Native.Nat.{ℕ, zero, suc, ◌+◌}
use lib.ListN.{length, replicate, take}
use Rattle.wire.specs.Bytes.{part, splice, alike, less, word, bytes}
use Rattle.wire.specs.Items.{chunks, items, flat, first_of, has_part, sum_of, all_of, key_of, keys, ascends, ascends_from}
use Rattle.table.specs.Rows.{count_of, places, shaped, rows_of, past_of, packed, appended, with_row, round_of}
use Rattle.config.specs.Members.{members_of, stake_in, worker_count, lawful}
use Rattle.config.specs.Committee.{total, quorum, valid_members, standing_of, stake_of}
use Rattle.config.specs.Sample.{id_bytes, member_with, members_with}
use Rattle.aggregators.specs.Weight.{is_in, enough, weighed, weight_after, held, digest_of, gathered_after, reached}
use Rattle.aggregators.specs.Listed.{listed, added}
use Rattle.aggregators.specs.Votes.{voters_of, with_voter, are_voters, vote_reaches, refuse, accept, count_vote}
use Rattle.aggregators.specs.Certificates.{pairs_of, with_pair, empty_row, of_round, few_pairs, are_counts, gathered, row_reaches, given, place_in, place_for, Certified, stay, grow, certificate_shape, count_certificate}
use Rattle.refusal.specs.Answers.{Answer}
use Rattle.std.specs.Prelude.{Ok, Err}
use Rattle.refusal.specs.declared.Refusal.TheVariants.{BadCommittee, BadShape, AuthorityReuse, NoRoom}

-- four members of stake 1, whose keys begin 1 to 4: quorum 3
abbrev four : List ℕ
four = members_with 1 (1 ∷ 1 ∷ 1 ∷ 1 ∷ [])

abbrev key : ℕ → List ℕ
key k = k ∷ replicate 31 0

-- voters whose keys begin so
unfoldable pub keys_of : List ℕ → List ℕ
keys_of [] = []
keys_of (k ∷ ks) = key k ++ keys_of ks

unfoldable pub voters : List ℕ → List ℕ
unfolding keys_of
voters ks = take 1025 (length ks ∷ (keys_of ks ++ replicate 1024 0))

abbrev vote : List ℕ → ℕ → Answer
vote ks k = (count_vote four (voters ks) (key k)).answer

-- one to n
abbrev up_to : ℕ → List ℕ
up_to zero = []
up_to (suc n) = suc n ∷ up_to n

pub record Votes : Type 0 where
  pub first : vote [] 1 ≡ Ok 0
  pub second : vote (1 ∷ []) 2 ≡ Ok 0
  pub quorum : vote (1 ∷ 2 ∷ []) 3 ≡ Ok 1
  pub once : vote (1 ∷ 2 ∷ 3 ∷ []) 4 ≡ Ok 0
  pub kept : (count_vote four (voters (1 ∷ 2 ∷ [])) (key 3)).voters ≡ voters (1 ∷ 2 ∷ 3 ∷ [])
  pub twice : vote (1 ∷ 2 ∷ 3 ∷ []) 2 ≡ Err AuthorityReuse
  pub twice-kept : (count_vote four (voters (1 ∷ 2 ∷ 3 ∷ [])) (key 2)).voters ≡ voters (1 ∷ 2 ∷ 3 ∷ [])
  pub stranger : vote (1 ∷ 2 ∷ []) 9 ≡ Ok 0
  pub after-stranger : vote (1 ∷ 9 ∷ 2 ∷ []) 3 ≡ Ok 1
  -- a second quorum needs repeats that only a host can write
  pub again : vote (1 ∷ 2 ∷ 3 ∷ 1 ∷ 2 ∷ []) 4 ≡ Ok 1
  pub full : vote (up_to 32) 40 ≡ Err NoRoom
  pub reuse-first : vote (up_to 32) 5 ≡ Err AuthorityReuse
  pub one_place : vote (up_to 31) 40 ≡ Ok 0
  pub count-33 : (count_vote four (33 ∷ replicate 1024 0) (key 1)).answer ≡ Err BadShape
  pub byte_cut : (count_vote four (0 ∷ replicate 1023 0) (key 1)).answer ≡ Err BadShape
  pub key-cut : (count_vote four (voters []) (1 ∷ replicate 30 0)).answer ≡ Err BadShape
  pub nobody : (count_vote [] (0 ∷ []) []).answer ≡ Err BadCommittee

pub votes : Votes
unfolding valid_members members_of lawful stake_in worker_count total quorum standing_of stake_of sum_of all_of key_of keys ascends ascends_from less alike part splice word bytes chunks items first_of has_part id_bytes member_with members_with is_in enough weighed weight_after reached listed added voters_of with_voter are_voters vote_reaches refuse accept count_vote keys_of voters
votes =
    record {
      first = refl;
      second = refl;
      quorum = refl;
      once = refl;
      kept = refl;
      twice = refl;
      twice-kept = refl;
      stranger = refl;
      after-stranger = refl;
      again = refl;
      full = refl;
      reuse-first = refl;
      one_place = refl;
      count-33 = refl;
      byte_cut = refl;
      key-cut = refl;
      nobody = refl;
    }

-- ---- certificates, each as its key's first byte; its digest begins 100 more
abbrev digest : ℕ → List ℕ
digest k = (100 + k) ∷ replicate 31 0

unfoldable pub pairs : List ℕ → List ℕ
pairs [] = []
pairs (k ∷ ks) = key k ++ (digest k ++ pairs ks)

unfoldable pub row : ℕ → List ℕ → List ℕ
unfolding pairs
row round ks = take 2053 (bytes 4 round ++ (length ks ∷ (pairs ks ++ replicate 2048 0)))

-- a table with two places, and the buffer
unfoldable pub table : List (List ℕ) → List ℕ
table rs = take 4114 (bytes 8 (length rs) ++ (flat rs ++ replicate 4106 0))

unfoldable pub buffer : List ℕ → List ℕ
buffer xs = take 1024 (xs ++ replicate 1024 7)

abbrev count : List (List ℕ) → ℕ → ℕ → Certified
count rs round k = count_certificate four (table rs) round (key k) (digest k) (buffer [])

pub record Certificates : Type 0 where
  pub first : (count [] 5 1).answer ≡ Ok 0
  pub first-row : (count [] 5 1).counts ≡ table (row 5 (1 ∷ []) ∷ [])
  pub first_out : (count [] 5 1).out ≡ buffer []
  pub second : (count (row 5 (1 ∷ []) ∷ []) 5 2).counts ≡ table (row 5 (1 ∷ 2 ∷ []) ∷ [])
  pub quorum : (count (row 5 (1 ∷ 2 ∷ []) ∷ []) 5 3).answer ≡ Ok 3
  pub quorum-row : (count (row 5 (1 ∷ 2 ∷ []) ∷ []) 5 3).counts ≡ table (row 5 (1 ∷ 2 ∷ 3 ∷ []) ∷ [])
  pub in_order : (count (row 5 (2 ∷ 1 ∷ []) ∷ []) 5 3).out ≡ buffer (digest 2 ++ (digest 1 ++ digest 3))
  pub once : (count (row 5 (1 ∷ 2 ∷ 3 ∷ []) ∷ []) 5 4).answer ≡ Ok 0
  pub once-out : (count (row 5 (1 ∷ 2 ∷ 3 ∷ []) ∷ []) 5 4).out ≡ buffer []
  pub repeated : (count (row 5 (1 ∷ 2 ∷ []) ∷ []) 5 2).answer ≡ Ok 0
  pub repeated-row : (count (row 5 (1 ∷ 2 ∷ []) ∷ []) 5 2).counts ≡ table (row 5 (1 ∷ 2 ∷ []) ∷ [])
  -- a stranger is gathered with stake 0
  pub stranger : (count (row 5 (1 ∷ 9 ∷ 2 ∷ []) ∷ []) 5 3).answer ≡ Ok 4
  -- a second quorum needs repeats that only a host can write; what was given before is not given again
  pub again : (count (row 5 (1 ∷ 2 ∷ 3 ∷ 1 ∷ 2 ∷ []) ∷ []) 5 4).out ≡ buffer (digest 1 ++ (digest 2 ++ digest 4))
  pub other-round : (count (row 5 (1 ∷ 2 ∷ []) ∷ []) 6 3).counts ≡ table (row 5 (1 ∷ 2 ∷ []) ∷ row 6 (3 ∷ []) ∷ [])
  pub no_row : (count (row 5 [] ∷ row 6 [] ∷ []) 7 1).answer ≡ Err NoRoom
  pub row-there : (count (row 5 [] ∷ row 6 [] ∷ []) 6 1).answer ≡ Ok 0
  pub no-pair : (count (row 5 (up_to 32) ∷ []) 5 40).answer ≡ Err NoRoom
  pub repeat-first : (count (row 5 (up_to 32) ∷ []) 5 32).answer ≡ Ok 0
  pub round-0 : (count [] 0 1).answer ≡ Err BadShape
  pub round-most : (count [] 4294967295 1).answer ≡ Ok 0
  pub round-over : (count [] 4294967296 1).answer ≡ Err BadShape
  pub pairs-33 : (count (row 5 (up_to 33) ∷ []) 6 1).answer ≡ Err BadShape
  pub no_place : (count_certificate four (replicate 8 0) 5 (key 1) (digest 1) (buffer [])).answer ≡ Err BadShape
  pub out-cut : (count_certificate four (table []) 5 (key 1) (digest 1) (take 1023 (buffer []))).answer ≡ Err BadShape
  pub nobody : (count_certificate [] [] 0 [] [] []).answer ≡ Err BadCommittee

pub certificates : Certificates
unfolding valid_members members_of lawful stake_in worker_count total quorum standing_of stake_of sum_of all_of key_of keys ascends ascends_from less alike part splice word bytes chunks items flat first_of has_part id_bytes member_with members_with is_in enough weighed weight_after held digest_of gathered_after reached listed added count_of places shaped rows_of past_of packed appended with_row round_of pairs_of with_pair empty_row of_round few_pairs are_counts gathered row_reaches given place_in place_for stay grow certificate_shape count_certificate pairs row table buffer
certificates =
    record {
      first = refl;
      first-row = refl;
      first_out = refl;
      second = refl;
      quorum = refl;
      quorum-row = refl;
      in_order = refl;
      once = refl;
      once-out = refl;
      repeated = refl;
      repeated-row = refl;
      stranger = refl;
      again = refl;
      other-round = refl;
      no_row = refl;
      row-there = refl;
      no-pair = refl;
      repeat-first = refl;
      round-0 = refl;
      round-most = refl;
      round-over = refl;
      pairs-33 = refl;
      no_place = refl;
      out-cut = refl;
      nobody = refl;
    }
