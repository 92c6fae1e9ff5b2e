-- The laws of `specs/Certificates.antt` on what is read: rows, their pairs, and what they give. Assumes nothing.
use mathlib.Core.Path.{◌≡◌, sym, ap, ◌∙◌}
use mathlib.Core.Bool.{Bool, true, false, not}
use mathlib.Core.List.{List, []}
use Prim.Native.Nat.{ℕ, ◌+◌, ◌-◌, ◌*◌, ◌≤◌, ◌<◌}
use native.Mathlib.Omega.{arith}
use lib.Dec.{eqb, ltb, leb}
use lib.ListN.{length, get_or, drop, length-drop}
use borrow.Author.Tests.{leb-true, le-leb, lt-leb, not-true, not-false}
use Rattle.wire.specs.Bytes.{part, word}
use Rattle.wire.specs.Items.{items, item_in, first_of, all_of, keys}
use Rattle.std.specs.Prelude.{Option, Some, None}
use Rattle.wire.proofs.Lists.{length-items, length-keys, all-at}
use Rattle.table.specs.Rows.{count_of, places, shaped, rows_of, round_of}
use Rattle.table.proofs.Laws.{is-table, row_below, row_is, row-length}
use Rattle.config.specs.Committee.{valid_members}
use Rattle.config.proofs.Laws.{both}
use Rattle.aggregators.specs.Weight.{quorum_in, stake_by, is_in, enough, weight_after, gathered_after, reached}
use Rattle.aggregators.specs.Tallies.{fresh, tally_after, digests}
use Rattle.aggregators.specs.Listed.{listed}
use Rattle.aggregators.specs.Certificates.{pair_count, pairs_of, of_round, few_pairs, are_counts, gathered, row_reaches, given_count, place_in, place_for}
use Rattle.aggregators.specs.declared.tally.Tally.{Tally}
use Rattle.std.specs.Prelude.{Ok, Err}
use Rattle.refusal.specs.declared.Refusal.TheVariants.{NoRoom}
use Rattle.aggregators.specs.declared.rounds.Place.TheVariants.{Counted, Row, New}
use Rattle.aggregators.proofs.Weights.{weight_is, weight-small, from_is, gathered-is, length-digests}

-- ---- rows
pub few-is : (row : List ℕ) (n : ℕ) → n ≡ pair_count row → leb n 32 ≡ few_pairs row
unfolding few_pairs
few-is row n e = rw e

pub round_is : (row : List ℕ) (round n : ℕ) → n ≡ word (part row 0 4) → eqb n round ≡ of_round round row
unfolding of_round round_of
round_is row round n e = rw e

module _ (t : List ℕ) (b : Bool) (e : b ≡ shaped 2053 t) where
  pub counts-no-table : not b ≡ true → false ≡ are_counts t
  unfolding are_counts
  counts-no-table h = sym (rw (sym e ∙ not-true b h))

  pub counts-last : (d : Bool) → not b ≡ false → d ≡ all_of few_pairs (rows_of 2053 t) → d ≡ are_counts t
  unfolding are_counts
  counts-last d h f = f ∙ sym (rw (sym e ∙ not-false b h))

module _ (t : List ℕ) (h : are_counts t ≡ true) where
  pub counts-table : shaped 2053 t ≡ true
  unfolding are_counts
  counts-table = (both (shaped 2053 t) (all_of few_pairs (rows_of 2053 t)) h).0

  pub counts-few : all_of few_pairs (rows_of 2053 t) ≡ true
  unfolding are_counts
  counts-few = (both (shaped 2053 t) (all_of few_pairs (rows_of 2053 t)) h).1

-- ---- the pairs of a row
pub row-pairs : (row : List ℕ) (n : ℕ) → length row ≡ 2053 → few_pairs row ≡ true → n ≡ pair_count row → 5 + n * 64 ≤ length row
unfolding few_pairs
row-pairs row n l h e = omega (arith, leb-true (pair_count row) 32 h)

pub origin-is : (row origin : List ℕ) (n : ℕ) (b : Bool) → n ≡ pair_count row → b ≡ is_in origin (items 64 row 5 n) → b ≡ is_in origin (pairs_of row)
unfolding pairs_of listed
origin-is row origin n b e f = f ∙ rw e

-- ---- the place of a certificate
module _ (row origin : List ℕ) (i : ℕ) where
  row-counted : is_in origin (pairs_of row) ≡ true → place_in row origin i ≡ Ok Counted
  unfolding place_in
  row-counted h = rw (h, place_in)

  row-full : is_in origin (pairs_of row) ≡ false → 32 ≤ pair_count row → place_in row origin i ≡ Err NoRoom
  unfolding place_in
  row-full h l = rw (h, place_in, le-leb 32 (pair_count row) l, place_in)

  row_open : is_in origin (pairs_of row) ≡ false → pair_count row < 32 → place_in row origin i ≡ Ok (Row i)
  unfolding place_in
  row_open h l = rw (h, place_in, lt-leb 32 (pair_count row) l, place_in)

module _ (t : List ℕ) (round : ℕ) (origin : List ℕ) (f : Option ℕ) (e : f ≡ first_of (of_round round) (rows_of 2053 t) 0) where
  module _ (g : f ≡ None) (b : Bool) (k : b ≡ ltb (count_of t) (places 2053 t)) where
    pub place-new : b ≡ true → (Ok New) ≡ place_for t round origin
    unfolding place_for
    place-new h = sym (rw (sym e ∙ g, place_for, sym k ∙ h, place_for))

    pub place-no-row : b ≡ false → (Err NoRoom) ≡ place_for t round origin
    unfolding place_for
    place-no-row h = sym (rw (sym e ∙ g, place_for, sym k ∙ h, place_for))

  module _ (i : ℕ) (g : f ≡ Some i) (h : are_counts t ≡ true) where
    below : i < count_of t
    below = row_below 2053 (of_round round) t f i (counts-table t h) e g

    pub place-fits : 8 + i * 2053 + 2053 ≤ length t
    place-fits = omega (arith, (is-table 2053 t (counts-table t h)).fits, below)

    module _ (r : List ℕ) (q : r ≡ item_in 2053 t 8 i) where
      pub place-length : length r ≡ 2053
      place-length = ap length q ∙ row-length 2053 t i (counts-table t h) below

      place_is : r ≡ get_or (rows_of 2053 t) i []
      place_is = q ∙ row_is 2053 t i (counts-table t h) below

      pub place-few : few_pairs r ≡ true
      place-few = rw place_is (all-at few_pairs (rows_of 2053 t) i (counts-few t h) (omega (arith, (is-table 2053 t (counts-table t h)).many, below)))

      in_row : place_in r origin i ≡ place_for t round origin
      unfolding place_for
      in_row = ap (λ (z : List ℕ). place_in z origin i) place_is ∙ sym (rw (sym e ∙ g, place_for))

      module _ (b : Bool) (k : b ≡ is_in origin (pairs_of r)) where
        pub place-counted : b ≡ true → (Ok Counted) ≡ place_for t round origin
        place-counted m = sym (row-counted r origin i (sym k ∙ m)) ∙ in_row

        module _ (m : b ≡ false) (n : ℕ) (o : n ≡ pair_count r) where
          pub place-full : 32 ≤ n → (Err NoRoom) ≡ place_for t round origin
          place-full l = sym (row-full r origin i (sym k ∙ m) (omega arith)) ∙ in_row

          pub place-row : n < 32 → (Ok (Row i)) ≡ place_for t round origin
          place-row l = sym (row_open r origin i (sym k ∙ m) (omega arith)) ∙ in_row

-- ---- what a row gives
module _ (ms row : List ℕ) (l : length row ≡ 2053) (h : pair_count row < 32) (n : ℕ) (e : n ≡ pair_count row) where
  pub pairs-fit : 5 + n * 64 ≤ length row
  pairs-fit = omega arith

  module _ (r : Tally) (f : r ≡ tally_after (quorum_in ms) (stake_by ms) (keys (items 64 row 5 n)) 0 fresh) where
    pub gives-from : r.from ≤ n
    gives-from =
        let z = from_is (quorum_in ms) (stake_by ms) (keys (items 64 row 5 n)) in
        rw f (omega (arith, length-keys (items 64 row 5 n), length-items 64 row 5 n))

    weight : r.weight ≡ weight_after (quorum_in ms) (stake_by ms) (keys (pairs_of row)) 0
    unfolding pairs_of listed
    weight = ap (λ (z : Tally). z.weight) f ∙ weight_is (quorum_in ms) (stake_by ms) (keys (items 64 row 5 n)) 0 fresh ∙ rw e

    pub gives-small : valid_members ms ≡ true → r.weight ≤ 4294967295
    gives-small v = rw weight (weight-small ms (keys (pairs_of row)) v)

    -- the digests gathered are those of the pairs from the place on
    pub gives-gathered : digests (drop r.from (items 64 row 5 n)) ≡ gathered ms row
    unfolding gathered pairs_of listed
    gives-gathered =
        ap (λ (z : Tally). digests (drop z.from (items 64 row 5 n))) f
        ∙ gathered-is (quorum_in ms) (stake_by ms) (items 64 row 5 n)
        ∙ ap (λ (k : ℕ). gathered_after (quorum_in ms) (stake_by ms) (items 64 row 5 k) 0 []) e

    gives-many : length (gathered ms row) ≡ n - r.from
    gives-many =
        sym (ap length gives-gathered)
        ∙ length-digests (drop r.from (items 64 row 5 n))
        ∙ length-drop r.from (items 64 row 5 n)
        ∙ ap (λ (k : ℕ). k - r.from) (length-items 64 row 5 n)

    module _ (origin : List ℕ) (b : Bool) (k : b ≡ enough (quorum_in ms) r.weight (stake_by ms origin)) where
      reach : b ≡ row_reaches ms row origin
      unfolding row_reaches reached
      reach = k ∙ rw weight

      pub gives_none : not b ≡ true → 0 ≡ given_count ms row origin
      unfolding given_count
      gives_none m = sym (rw (sym reach ∙ not-true b m, given_count))

      pub gives-some : not b ≡ false → n - r.from + 1 ≡ given_count ms row origin
      unfolding given_count
      gives-some m = sym (rw (sym reach ∙ not-false b m, given_count, gives-many))
