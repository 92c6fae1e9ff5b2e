-- The laws of `specs/Certificates.antt` on what is written: pairs, rows, and the digests given. Assumes nothing.
use mathlib.Core.Path.{◌≡◌, refl, sym, ap, ◌∙◌}
use mathlib.Core.Bool.{Bool, true, false}
use mathlib.Core.Logic.{⊎_elim}
use mathlib.Core.List.{List, [], ◌∷◌, ◌++◌}
use Prim.Native.Nat.{ℕ, ◌+◌, ◌-◌, ◌*◌, ◌≤◌, ◌<◌}
use native.Mathlib.Omega.{arith}
use lib.ListN.{length, get_or, set, take, drop, replicate, length-take, length-drop, length-append, length-replicate, drop_of_length-le}
use lib.Seq.{drop-append-le, take_at}
use Rattle.wire.specs.Bytes.{part, splice, word, bytes}
use Rattle.wire.specs.Items.{items, chunks, item_in, keys, flat}
use Rattle.wire.proofs.Laws.{true-or-false, length_part, length-splice, length-bytes, word_bytes, put-mid}
use Rattle.wire.proofs.Lists.{Sized, none, one, items-sized, item-length, length-items, flat_append, flat-one, length-keys, sized-at}
use Rattle.table.specs.Rows.{count_of, shaped, rows_of, with_row, round_of}
use Rattle.table.proofs.Laws.{is-table, row_fits, row_is, set_is}
use Rattle.aggregators.specs.Weight.{digest_of, quorum_in, stake_by}
use Rattle.aggregators.specs.Tallies.{fresh, tally_after, digests}
use Rattle.aggregators.specs.Listed.{listed, added}
use Rattle.aggregators.specs.Certificates.{pair_count, pairs_of, with_pair, empty_row, gathered, row_reaches, given, given_count, last_digests, Gives}
use Rattle.aggregators.proofs.Weights.{digests-append, length-digests, from_is, gathered-is}
use Rattle.aggregators.proofs.Listing.{items_more, splice-behind, sized-drop, length-added, count-added, listed-added, part-added}

-- ---- the digests of some pairs, one behind the other
length-flat-digests : (ps : List (List ℕ)) → Sized 64 ps → length (flat (digests ps)) ≡ length ps * 32
unfolding flat digests digest_of
length-flat-digests [] none = refl
length-flat-digests (p ∷ ps) (one e s) =
    length-append (digest_of p) (flat (digests ps)) ∙ omega (arith, length_part p 32 32 (omega arith), length-flat-digests ps s)

-- ---- the loop that writes digests: those of the pairs from a place up to i are written
pub record Writing (row : List ℕ) (from n : ℕ) (out : List ℕ) (i : ℕ) (o : List ℕ) : Type 0 where
  pub low : from ≤ i
  pub high : i ≤ n
  pub fits : 5 + n * 64 ≤ length row
  pub room : (n - from) * 32 ≤ length out
  pub same : length o ≡ length out
  pub done : o ≡ splice out 0 (flat (digests (drop from (items 64 row 5 i))))

pub splice-none : (out : List ℕ) → splice out 0 (flat []) ≡ out
unfolding splice flat
splice-none out = refl

pub writing_start : (row : List ℕ) (from n : ℕ) (out : List ℕ) → from ≤ n → 5 + n * 64 ≤ length row → (n - from) * 32 ≤ length out → Writing row from n out from out
unfolding digests
writing_start row from n out h f r =
    let z : drop from (items 64 row 5 from) ≡ [] = drop_of_length-le (items 64 row 5 from) {i = from} (omega (arith, length-items 64 row 5 from)) in
    record { low = omega arith; high = h; fits = f; room = r; same = refl; done = sym (rw z (splice-none out)) }

module _ (row : List ℕ) (from n : ℕ) (out : List ℕ) (i : ℕ) (o : List ℕ) (s : Writing row from n out i o) where
  pub writing-done : n ≤ i → o ≡ splice out 0 (flat (digests (drop from (items 64 row 5 n))))
  writing-done l =
      let e : i ≡ n = omega (arith, s.high) in
      s.done ∙ ap (λ (k : ℕ). splice out 0 (flat (digests (drop from (items 64 row 5 k))))) e

  module _ (l : i < n) where
    pub writing-fits : 5 + i * 64 + 64 ≤ length row
    writing-fits = omega (arith, s.fits)

    pub writing-low : from ≤ i
    writing-low = s.low

    written : length (flat (digests (drop from (items 64 row 5 i)))) ≡ (i - from) * 32
    written =
        length-flat-digests (drop from (items 64 row 5 i)) (sized-drop 64 (items 64 row 5 i) from (items-sized 64 row 5 i (omega (arith, s.fits))))
        ∙ ap (λ (k : ℕ). k * 32) (length-drop from (items 64 row 5 i) ∙ ap (λ (k : ℕ). k - from) (length-items 64 row 5 i))

    module _ (p : List ℕ) (e : p ≡ item_in 64 row 5 i) where
      pub writing-reach : 64 ≤ length p
      writing-reach = omega (arith, ap length e, item-length 64 row 5 n s.fits i l)

      module _ (d : List ℕ) (f : d ≡ digest_of p) where
        digest-long : length d ≡ 32
        unfolding digest_of
        digest-long = ap length f ∙ length_part p 32 32 (omega (arith, writing-reach))

        pub writing-room : (i - from) * 32 + length d ≤ length o
        writing-room = omega (arith, digest-long, s.room, s.same, s.low)

        pub writing-next : (v : List ℕ) → v ≡ splice o ((i - from) * 32) d → Writing row from n out (i + 1) v
        unfolding digests
        writing-next v g =
            let x = drop from (items 64 row 5 i) in
            let m : drop from (items 64 row 5 (i + 1)) ≡ x ++ (item_in 64 row 5 i ∷ []) =
            ap (drop from) (items_more 64 row 5 i (omega (arith, s.fits)))
            ∙ drop-append-le from (items 64 row 5 i) (item_in 64 row 5 i ∷ []) (omega (arith, length-items 64 row 5 i, s.low)) in
            let q : flat (digests (drop from (items 64 row 5 (i + 1)))) ≡ flat (digests x) ++ d =
            ap (λ (z : List (List ℕ)). flat (digests z)) m
            ∙ ap flat (digests-append x (item_in 64 row 5 i ∷ []))
            ∙ flat_append (digests x) (digest_of (item_in 64 row 5 i) ∷ [])
            ∙ ap (λ (z : List ℕ). flat (digests x) ++ z) (flat-one (digest_of (item_in 64 row 5 i)) ∙ sym (f ∙ ap digest_of e)) in
            let w : (i - from) * 32 ≡ 0 + length (flat (digests x)) = omega (arith, written) in
            record {
              low = omega (arith, s.low);
              high = omega arith;
              fits = s.fits;
              room = s.room;
              same = ap length g ∙ length-splice o ((i - from) * 32) d writing-room ∙ s.same;
              done =
                  g
                  ∙ ap (λ (z : List ℕ). splice z ((i - from) * 32) d) s.done
                  ∙ splice-behind out 0 (flat (digests x)) d ((i - from) * 32) w (omega (arith, writing-room, s.same))
                  ∙ ap (splice out 0) (sym q);
            }

-- ---- a pair more in a row
module _ (row origin digest : List ℕ) (n : ℕ) (l : length row ≡ 2053) (h : pair_count row < 32) (lo : length origin ≡ 32) (ld : length digest ≡ 32) (e : n ≡ pair_count row) where
  pub pair_put : (u v : List ℕ) → u ≡ splice row (5 + n * 64) origin → v ≡ splice u (5 + n * 64 + 32) digest → set v 4 (n + 1) ≡ with_pair row origin digest
  unfolding with_pair added
  pair_put u v f g =
      let z : v ≡ splice row (5 + n * 64) (origin ++ digest) = g ∙ ap (λ (x : List ℕ). splice x (5 + n * 64 + 32) digest) f ∙ splice-behind row (5 + n * 64) origin digest (5 + n * 64 + 32) (omega arith) (omega arith) in
      rw (z, e)

pub pair-length : (origin digest : List ℕ) → length origin ≡ 32 → length digest ≡ 32 → length (origin ++ digest) ≡ 64
pair-length origin digest a b = length-append origin digest ∙ omega arith

module _ (row origin digest : List ℕ) (l : length row ≡ 2053) (h : pair_count row < 32) (lo : length origin ≡ 32) (ld : length digest ≡ 32) where
  fits : 5 + (pair_count row + 1) * 64 ≤ length row
  fits = omega arith

  pub length-with : length (with_pair row origin digest) ≡ 2053
  unfolding with_pair
  length-with = length-added 4 5 64 row (origin ++ digest) (omega arith) (pair-length origin digest lo ld) fits ∙ l

  -- THE PAIRS OF A ROW with one more; its round stays
  pub pairs-with : pairs_of (with_pair row origin digest) ≡ pairs_of row ++ ((origin ++ digest) ∷ [])
  unfolding with_pair pairs_of
  pairs-with = listed-added 4 5 64 row (origin ++ digest) (omega arith) (pair-length origin digest lo ld) fits

  pub count-with : pair_count (with_pair row origin digest) ≡ pair_count row + 1
  unfolding with_pair
  count-with = count-added 4 5 64 row (origin ++ digest) (omega arith) (pair-length origin digest lo ld) fits

  pub round_with : round_of (with_pair row origin digest) ≡ round_of row
  unfolding with_pair round_of
  round_with = ap word (part-added 4 5 64 row (origin ++ digest) (omega arith) (pair-length origin digest lo ld) fits 0 4 (omega arith))

-- ---- a row with no pair
pub row_made : (round : ℕ) (v : List ℕ) → v ≡ splice (replicate 2053 0) 0 (bytes 4 round) → v ≡ empty_row round
unfolding empty_row splice
row_made round v e = e ∙ rw (length-bytes 4 round)

pub length-empty : (round : ℕ) → length (empty_row round) ≡ 2053
unfolding empty_row
length-empty round = length-append (bytes 4 round) (replicate 2049 0) ∙ omega (arith, length-bytes 4 round, length-replicate {A = ℕ} 2049 0)

pub count-empty : (round : ℕ) → pair_count (empty_row round) ≡ 0
unfolding empty_row bytes
count-empty round = refl

pub pairs-empty : (round : ℕ) → pairs_of (empty_row round) ≡ []
unfolding pairs_of listed items chunks empty_row bytes
pairs-empty round = refl

pub round-empty : (round : ℕ) → round ≤ 4294967295 → round_of (empty_row round) ≡ round
unfolding empty_row round_of part
round-empty round h = ap word (take_at (bytes 4 round) (replicate 2049 0) 4 (length-bytes 4 round)) ∙ word_bytes 4 round (omega arith)

-- ---- row i lent, as the bytes where it stands, and back
module _ (t : List ℕ) (i : ℕ) (h : shaped 2053 t ≡ true) (l : i < count_of t) where
  pub lent_fits : 8 + i * 2053 + 2053 ≤ length t
  lent_fits = row_fits 2053 t i h l

  gap : 8 + i * 2053 + 2053 - (8 + i * 2053) ≡ 2053
  gap = omega arith

  part-is : take 2053 (drop (8 + i * 2053) t) ≡ item_in 2053 t 8 i
  unfolding item_in part
  part-is = refl

  lent_is : take (8 + i * 2053 + 2053 - (8 + i * 2053)) (drop (8 + i * 2053) t) ≡ get_or (rows_of 2053 t) i []
  lent_is = rw gap (part-is ∙ row_is 2053 t i h l)

  pub row-of-length : length (get_or (rows_of 2053 t) i []) ≡ 2053
  row-of-length = let x = is-table 2053 t h in sized-at 2053 (rows_of 2053 t) i x.sized (omega (arith, x.many))

  pub lent_length : length (take (8 + i * 2053 + 2053 - (8 + i * 2053)) (drop (8 + i * 2053) t)) ≡ 2053
  lent_length = ap length lent_is ∙ row-of-length

  pub lent-count : pair_count (get_or (rows_of 2053 t) i []) < 32 → pair_count (take (8 + i * 2053 + 2053 - (8 + i * 2053)) (drop (8 + i * 2053) t)) < 32
  lent-count k = rw lent_is k

  pub lent_same : (w : List ℕ) → length w ≡ length (take (8 + i * 2053 + 2053 - (8 + i * 2053)) (drop (8 + i * 2053) t)) → length (take (8 + i * 2053) t ++ (w ++ drop (8 + i * 2053 + 2053 - (8 + i * 2053)) (drop (8 + i * 2053) t))) ≡ length t
  lent_same w e =
      let f = lent_fits in
      let g = e ∙ lent_length in
      simp (length-append, length-take, length-drop, length-drop) (omega arith)

  module _ (origin digest : List ℕ) (k : pair_count (get_or (rows_of 2053 t) i []) < 32) (lo : length origin ≡ 32) (ld : length digest ≡ 32) where
    pub lent_back : (w : List ℕ) → w ≡ with_pair (take (8 + i * 2053 + 2053 - (8 + i * 2053)) (drop (8 + i * 2053) t)) origin digest → take (8 + i * 2053) t ++ (w ++ drop (8 + i * 2053 + 2053 - (8 + i * 2053)) (drop (8 + i * 2053) t)) ≡ with_row 2053 t i (with_pair (get_or (rows_of 2053 t) i []) origin digest)
    lent_back w e =
        let f : w ≡ with_pair (get_or (rows_of 2053 t) i []) origin digest = e ∙ ap (λ (z : List ℕ). with_pair z origin digest) lent_is in
        let n : length (with_pair (get_or (rows_of 2053 t) i []) origin digest) ≡ 2053 = length-with (get_or (rows_of 2053 t) i []) origin digest row-of-length k lo ld in
        rw (f, gap)
        (put-mid t (with_pair (get_or (rows_of 2053 t) i []) origin digest) (8 + i * 2053) 2053 n ∙ set_is 2053 t i (with_pair (get_or (rows_of 2053 t) i []) origin digest) h l n)

-- ---- the digests given
length_pairs : (row : List ℕ) → length (pairs_of row) ≡ pair_count row
unfolding pairs_of listed
length_pairs row = length-items 64 row 5 (pair_count row)

module _ (row : List ℕ) (k : ℕ) (digest out : List ℕ) (n : ℕ) (l : length row ≡ 2053) (h : pair_count row < 32) (low : 1 ≤ k) (high : k ≤ pair_count row + 1) (ld : length digest ≡ 32) (room : 1024 ≤ length out) (e : n ≡ pair_count row) where
  pub given-put : (u v : List ℕ) → u ≡ splice out 0 (flat (digests (drop (n + 1 - k) (items 64 row 5 n)))) → v ≡ splice u ((k - 1) * 32) digest → v ≡ splice out 0 (flat (last_digests k row digest))
  unfolding last_digests pairs_of listed
  given-put u v f g =
      let ds = digests (drop (n + 1 - k) (items 64 row 5 n)) in
      let s = sized-drop 64 (items 64 row 5 n) (n + 1 - k) (items-sized 64 row 5 n (omega arith)) in
      let w : length (flat ds) ≡ (n - (n + 1 - k)) * 32 =
      length-flat-digests (drop (n + 1 - k) (items 64 row 5 n)) s
      ∙ ap (λ (z : ℕ). z * 32) (length-drop (n + 1 - k) (items 64 row 5 n) ∙ ap (λ (z : ℕ). z - (n + 1 - k)) (length-items 64 row 5 n)) in
      let q : flat (ds ++ (digest ∷ [])) ≡ flat ds ++ digest = flat_append ds (digest ∷ []) ∙ ap (λ (z : List ℕ). flat ds ++ z) (flat-one digest) in
      g
      ∙ ap (λ (z : List ℕ). splice z ((k - 1) * 32) digest) f
      ∙ splice-behind out 0 (flat ds) digest ((k - 1) * 32) (omega arith) (omega arith)
      ∙ ap (splice out 0) (sym q)
      ∙ ap (λ (z : ℕ). splice out 0 (flat (digests (drop (z + 1 - k) (items 64 row 5 z)) ++ (digest ∷ [])))) e

  pub given-room : (n - (n + 1 - k)) * 32 ≤ length out
  given-room = omega arith

module _ (ms row : List ℕ) where
  place : ℕ
  place = (tally_after (quorum_in ms) (stake_by ms) (keys (pairs_of row)) 0 fresh).from

  place-high : place ≤ pair_count row
  unfolding place
  place-high = omega (arith, from_is (quorum_in ms) (stake_by ms) (keys (pairs_of row)), length-keys (pairs_of row), length_pairs row)

  from_place : digests (drop place (pairs_of row)) ≡ gathered ms row
  unfolding place gathered
  from_place = gathered-is (quorum_in ms) (stake_by ms) (pairs_of row)

  length-gathered : length (gathered ms row) ≡ pair_count row - place
  length-gathered =
      sym (ap length from_place)
      ∙ length-digests (drop place (pairs_of row))
      ∙ length-drop place (pairs_of row)
      ∙ ap (λ (k : ℕ). k - place) (length_pairs row)

  module _ (origin : List ℕ) (k : ℕ) (e : k ≡ given_count ms row origin) where
    none-given : (b : Bool) → row_reaches ms row origin ≡ b → k ≡ 0 → b ≡ false
    unfolding given_count
    none-given true f z = let q : given_count ms row origin ≡ length (gathered ms row) + 1 = rw (f, given_count) in absurd (omega arith)
    none-given false f z = refl

    some-given : (b : Bool) → row_reaches ms row origin ≡ b → (k ≡ 0 → ⊥) → b ≡ true
    unfolding given_count
    some-given true f z = refl
    some-given false f z = let q : given_count ms row origin ≡ 0 = rw (f, given_count) in absurd (z (e ∙ q))

    given-many : row_reaches ms row origin ≡ true → k ≡ length (gathered ms row) + 1
    unfolding given_count
    given-many f = e ∙ rw (f, given_count)

    gives-zero : row_reaches ms row origin ≡ false → k ≡ 0
    unfolding given_count
    gives-zero f = e ∙ rw (f, given_count)

    pub gives-most : k ≤ pair_count row + 1
    gives-most =
        ⊎_elim
        (λ (f : row_reaches ms row origin ≡ true). omega (arith, given-many f, length-gathered))
        (λ (f : row_reaches ms row origin ≡ false). omega (arith, gives-zero f))
        (true-or-false (row_reaches ms row origin))

    module _ (digest out : List ℕ) where
      pub give-none : k ≡ 0 → Gives (given ms row origin digest) out 0 out
      unfolding given
      give-none z =
          let f : row_reaches ms row origin ≡ false = none-given (row_reaches ms row origin) refl z in
          let q : given ms row origin digest ≡ [] = rw (f, given) in
          record { many = rw q; buffer = sym (rw q (splice-none out)) }

      pub give-some : (o : List ℕ) → (k ≡ 0 → ⊥) → o ≡ splice out 0 (flat (last_digests k row digest)) → Gives (given ms row origin digest) out k o
      unfolding given last_digests
      give-some o z g =
          let f : row_reaches ms row origin ≡ true = some-given (row_reaches ms row origin) refl z in
          let q : given ms row origin digest ≡ gathered ms row ++ (digest ∷ []) = rw (f, given) in
          let p : pair_count row + 1 - k ≡ place = omega (arith, given-many f, length-gathered, place-high) in
          let w : digests (drop (pair_count row + 1 - k) (pairs_of row)) ++ (digest ∷ []) ≡ given ms row origin digest = rw p (rw (from_place, q)) in
          record {
            many = given-many f ∙ sym (ap length q ∙ length-append (gathered ms row) (digest ∷ []));
            buffer = g ∙ ap (λ (x : List (List ℕ)). splice out 0 (flat x)) w;
          }
