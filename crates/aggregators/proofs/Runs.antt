-- What a call leaves, as lists: the voters and their weight, a row and what it has gathered; and that the next call finds them in shape.
-- Assumes nothing.
use mathlib.Core.Path.{◌≡◌, refl, sym, ap, ◌∙◌}
use mathlib.Core.Bool.{Bool, true, false}
use mathlib.Core.List.{List, [], ◌∷◌, ◌++◌, append-nil}
use Prim.Native.Nat.{ℕ, zero, suc, ◌+◌, ◌*◌, ◌≤◌, ◌<◌, ◌^◌}
use native.Mathlib.Omega.{arith}
use lib.ListN.{length, get_or, set, drop}
use borrow.Author.Tests.{eq-eqb, le-leb}
use Rattle.wire.specs.Bytes.{part}
use Rattle.wire.specs.Items.{all_of, key_of, keys}
use Rattle.wire.proofs.Laws.{true-not-false}
use Rattle.wire.proofs.Lists.{part-seam}
use Rattle.table.specs.Rows.{rows_of, past_of, with_row, appended}
use Rattle.table.proofs.Laws.{After, set_after, append-after}
use Rattle.config.specs.Committee.{valid_members}
use Rattle.aggregators.specs.Weight.{quorum_in, stake_by, weighed, held, digest_of}
use Rattle.aggregators.specs.Listed.{added}
use Rattle.aggregators.specs.Votes.{voter_count, voters_of, with_voter, are_voters, votes_weight, OneMore}
use Rattle.aggregators.specs.Certificates.{pair_count, pairs_of, with_pair, empty_row, few_pairs, are_counts, gathered, row_weight, place_for, stay, grow, certificate_shape, count_certificate, PairMore}
use Rattle.std.specs.Prelude.{Result, Ok, Err}
use Rattle.refusal.specs.declared.Refusal.{Refusal}
use Rattle.aggregators.specs.declared.rounds.Place.{Place}
use Rattle.aggregators.specs.declared.rounds.Place.TheVariants.{Counted, Row, New}
use Rattle.aggregators.proofs.Weights.{weight-more, gathered-more, keys-more}
use Rattle.aggregators.proofs.Listing.{length-added, count-added, listed-added}
use Rattle.aggregators.proofs.Voting.{are-voters}
use Rattle.aggregators.proofs.Counting.{counts-few}
use Rattle.aggregators.proofs.Giving.{length-with, pairs-with, count-with, round_with, length-empty, count-empty, row-of-length}
use Rattle.aggregators.proofs.Certifying.{in-shape, in_row, in-new}

-- ---- votes
module _ (ms t author : List ℕ) (h : are_voters t ≡ true) (k : voter_count t < 32) (l : length author ≡ 32) where
  fits : 1 + (get_or t 0 0 + 1) * 32 ≤ length t
  fits = omega (arith, (are-voters t h).long)

  voters-more : voters_of (with_voter t author) ≡ voters_of t ++ (author ∷ [])
  unfolding voters_of with_voter
  voters-more = listed-added 0 1 32 t author (omega arith) l fits

  weight-then : votes_weight ms (with_voter t author) ≡ weighed (quorum_in ms) (votes_weight ms t) (stake_by ms author)
  unfolding votes_weight
  weight-then = rw voters-more (weight-more (quorum_in ms) (stake_by ms) (voters_of t) author 0)

  shape-then : are_voters (with_voter t author) ≡ true
  unfolding are_voters with_voter
  shape-then =
      let c : voter_count (added 0 1 32 t author) ≤ 32 = omega (arith, count-added 0 1 32 t author (omega arith) l fits) in
      let n : length (added 0 1 32 t author) ≡ 1025 = length-added 0 1 32 t author (omega arith) l fits ∙ (are-voters t h).long in
      rw (eq-eqb (length (added 0 1 32 t author)) 1025 n, le-leb (voter_count (added 0 1 32 t author)) 32 c)

  pub one_more : OneMore ms t author (with_voter t author)
  one_more = record { voters = voters-more; weight = weight-then; shape = shape-then }

-- ---- certificates
module _ (origin digest : List ℕ) (lo : length origin ≡ 32) (ld : length digest ≡ 32) where
  key-of-pair : key_of (origin ++ digest) ≡ origin
  unfolding key_of
  key-of-pair = part-seam [] origin digest 0 32 refl lo

  digest-of-pair : digest_of (origin ++ digest) ≡ digest
  unfolding digest_of
  digest-of-pair = ap (λ (z : List ℕ). part (origin ++ z) 32 32) (sym (append-nil digest)) ∙ part-seam origin digest [] 32 32 lo ld

module _ (ms row origin digest : List ℕ) (l : length row ≡ 2053) (h : pair_count row < 32) (lo : length origin ≡ 32) (ld : length digest ≡ 32) where
  keys-then : keys (pairs_of (with_pair row origin digest)) ≡ keys (pairs_of row) ++ (origin ∷ [])
  keys-then = ap keys (pairs-with row origin digest l h lo ld) ∙ keys-more (pairs_of row) (origin ++ digest) ∙ ap (λ (z : List ℕ). keys (pairs_of row) ++ (z ∷ [])) (key-of-pair origin digest lo ld)

  row-weight-then : row_weight ms (with_pair row origin digest) ≡ weighed (quorum_in ms) (row_weight ms row) (stake_by ms origin)
  unfolding row_weight
  row-weight-then = rw keys-then (weight-more (quorum_in ms) (stake_by ms) (keys (pairs_of row)) origin 0)

  held_then : gathered ms (with_pair row origin digest) ≡ held (quorum_in ms) (row_weight ms row) (stake_by ms origin) (gathered ms row) digest
  unfolding gathered row_weight
  held_then =
      let g = gathered-more (quorum_in ms) (stake_by ms) (pairs_of row) (origin ++ digest) 0 [] in
      rw (pairs-with row origin digest l h lo ld) (rw (key-of-pair origin digest lo ld, digest-of-pair origin digest lo ld) at g)

  pub pair-more : PairMore ms row origin digest (with_pair row origin digest)
  pair-more = record { pairs = pairs-with row origin digest l h lo ld; round = round_with row origin digest l h lo ld; weight = row-weight-then; digests = held_then }

  few-with : few_pairs (with_pair row origin digest) ≡ true
  unfolding few_pairs
  few-with = le-leb (pair_count (with_pair row origin digest)) 32 (omega (arith, count-with row origin digest l h lo ld))

-- ---- a table stays a table of such rows
all_set : (test : List ℕ → Bool) (rs : List (List ℕ)) (i : ℕ) (x : List ℕ) → all_of test rs ≡ true → test x ≡ true → all_of test (set rs i x) ≡ true
unfolding all_of
all_set test [] i x h e = refl
all_set test (r ∷ rs) i x h e = go (all_set test rs) i (test r) refl h where
  go : ((j : ℕ) (y : List ℕ) → all_of test rs ≡ true → test y ≡ true → all_of test (set rs j y) ≡ true) → (i : ℕ) (b : Bool) → test r ≡ b → all_of test (r ∷ rs) ≡ true → all_of test (set (r ∷ rs) i x) ≡ true
  go f zero true q h = rw (e, all_of) (rw (q, all_of) at h)
  go f (suc i) true q h = rw (q, all_of) (f i x (rw (q, all_of) at h) e)
  go f i false q h = absurd (true-not-false (sym (rw (q, all_of) at h)))

all_more : (test : List ℕ → Bool) (rs : List (List ℕ)) (x : List ℕ) → all_of test rs ≡ true → test x ≡ true → all_of test (rs ++ (x ∷ [])) ≡ true
unfolding all_of
all_more test [] x h e = rw (e, all_of)
all_more test (r ∷ rs) x h e = go (all_more test rs x) (test r) refl h where
  go : (all_of test rs ≡ true → test x ≡ true → all_of test (rs ++ (x ∷ [])) ≡ true) → (b : Bool) → test r ≡ b → all_of test (r ∷ rs) ≡ true → all_of test ((r ∷ rs) ++ (x ∷ [])) ≡ true
  go f true q h = rw (q, all_of) (f (rw (q, all_of) at h) e)
  go f false q h = absurd (true-not-false (sym (rw (q, all_of) at h)))

counts-after : (t u : List ℕ) (rs : List (List ℕ)) (rest : List ℕ) → After 2053 t u rs rest → all_of few_pairs rs ≡ true → are_counts u ≡ true
unfolding are_counts
counts-after t u rs rest a h = rw (a.shape, a.rows) h

-- AFTER EVERY CALL the table that was in shape is in shape
pub counts-stay : (ms t : List ℕ) (round : ℕ) (origin digest out : List ℕ) → length t < 256 ^ 8 → are_counts t ≡ true → are_counts (count_certificate ms t round origin digest out).counts ≡ true
unfolding count_certificate stay grow
counts-stay ms t round origin digest out w c = go (valid_members ms) refl (certificate_shape t round origin digest out) refl (place_for t round origin) refl where
  go : (a : Bool) → valid_members ms ≡ a → (b : Bool) → certificate_shape t round origin digest out ≡ b → (p : Result Place Refusal) → place_for t round origin ≡ p → are_counts (count_certificate ms t round origin digest out).counts ≡ true
  go false e b f p g = rw (e, count_certificate) c
  go true e false f p g = rw (e, count_certificate, f, count_certificate) c
  go true e true f (Ok Counted) g = rw (e, count_certificate, f, count_certificate, g, count_certificate) c
  go true e true f (Err x) g = rw (e, count_certificate, f, count_certificate, g, count_certificate) c
  go true e true f (Ok (Row i)) g =
      let z = in-shape t round origin digest out true (sym f) refl in
      let r = in_row t round origin z.table (Ok (Row i)) (sym g) i refl in
      let row = get_or (rows_of 2053 t) i [] in
      let l = row-of-length t i z.table r.below in
      rw (e, count_certificate, f, count_certificate, g, count_certificate)
      (counts-after t (with_row 2053 t i (with_pair row origin digest)) (set (rows_of 2053 t) i (with_pair row origin digest)) (past_of 2053 t)
      (set_after 2053 t i (with_pair row origin digest) z.table r.below (length-with row origin digest l r.few z.key z.name))
      (all_set few_pairs (rows_of 2053 t) i (with_pair row origin digest) (counts-few t c) (few-with ms row origin digest l r.few z.key z.name)))
  go true e true f (Ok New) g =
      let z = in-shape t round origin digest out true (sym f) refl in
      let n = in-new t round origin z.table (Ok New) (sym g) refl in
      let row = empty_row round in
      let l = length-empty round in
      let k : pair_count (empty_row round) < 32 = omega (arith, count-empty round) in
      rw (e, count_certificate, f, count_certificate, g, count_certificate)
      (counts-after t (appended 2053 t (with_pair row origin digest)) (rows_of 2053 t ++ (with_pair row origin digest ∷ [])) (drop 2053 (past_of 2053 t))
      (append-after 2053 t (with_pair row origin digest) z.table n (length-with row origin digest l k z.key z.name) w)
      (all_more few_pairs (rows_of 2053 t) (with_pair row origin digest) (counts-few t c) (few-with ms row origin digest l k z.key z.name)))
