-- Numbers in lent bytes: one of them read, one of them put. Assumes nothing.
use mathlib.Core.Path.{◌≡◌, refl, sym, ap, ◌∙◌}
use mathlib.Core.Bool.{Bool, true, false}
use mathlib.Core.List.{List, [], ◌∷◌, map}
use mathlib.Core.Logic.{◌⊎◌, inl, inr}
use Prim.Native.Nat.{ℕ, zero, suc, ◌+◌, ◌*◌, ◌/◌, ◌^◌, ◌≤◌, ◌<◌}
use native.Mathlib.Nat.{le_of_suc-le-suc, not-suc-le-zero}
use native.Mathlib.Omega.{arith}
use borrow.Author.Tests.{eqb-true, eqb-false}
use lib.Dec.{eqb}
use lib.ListN.{length, get_or, set, length-map, length-set}
use lib.Seq.{ext_get_or, get_or-set_same, get_or-set_other}
use Rattle.wire.specs.Bytes.{part, word, bytes, splice}
use Rattle.wire.specs.Items.{items, item_in}
use Rattle.wire.proofs.Laws.{word_bytes, length-bytes, length-splice, part-splice, part-splice-before, part-splice-after, less-or-not}
use Rattle.wire.proofs.Lists.{length-items, item-is, below-mul}
use Rattle.room.specs.Numbers.{values_of, numbers_of, rounds_of, Put}

map-word : (xs : List (List ℕ)) (i : ℕ) → i < length xs → get_or (map word xs) i 0 ≡ word (get_or xs i [])
map-word [] i h = absurd (not-suc-le-zero h)
map-word (x ∷ xs) zero h = refl
map-word (x ∷ xs) (suc i) h = map-word xs i (le_of_suc-le-suc h)

pub length-values : (size : ℕ) (xs : List ℕ) (n : ℕ) → length (values_of size xs n) ≡ n
unfolding values_of
length-values size xs n = length-map (items size xs 0 n) word ∙ length-items size xs 0 n

value-is : (size : ℕ) (xs : List ℕ) (n k : ℕ) → n * size ≤ length xs → k < n → word (part xs (k * size) size) ≡ get_or (values_of size xs n) k 0
unfolding values_of item_in
value-is size xs n k h l =
    let z : 0 + k * size ≡ k * size = omega arith in
    ap (λ (i : ℕ). word (part xs i size)) (sym z)
    ∙ sym (map-word (items size xs 0 n) k (rw (length-items size xs 0 n) l) ∙ ap word (sym (item-is size xs 0 n (omega arith) k l)))

module _ (size : ℕ) (xs : List ℕ) (n k x : ℕ) (h : n * size ≤ length xs) (l : k < n) (b : x < 256 ^ size) where
  lb : length (bytes size x) ≡ size
  lb = length-bytes size x

  in-room : k * size + length (bytes size x) ≤ length xs
  in-room = let s = below-mul k n size l in rw lb (omega arith)

  put-size : length (splice xs (k * size) (bytes size x)) ≡ length xs
  put-size = length-splice xs (k * size) (bytes size x) in-room

  side : (i : ℕ) → (i ≡ k → ⊥) → (i < k) ⊎ (k ≤ i) → part (splice xs (k * size) (bytes size x)) (i * size) size ≡ part xs (i * size) size
  side i d (inl a) = let s = below-mul i k size a in part-splice-before xs (k * size) (bytes size x) in-room (i * size) size (omega arith)
  side i d (inr a) =
      let m : k < i = omega arith in
      let s = below-mul k i size m in
      let b = lb in
      part-splice-after xs (k * size) (bytes size x) in-room (i * size) size (omega arith)

  put-each : (i : ℕ) → i < n → get_or (values_of size (splice xs (k * size) (bytes size x)) n) i 0 ≡ get_or (set (values_of size xs n) k x) i 0
  put-each i li = go (eqb i k) refl
    where
      here : get_or (values_of size (splice xs (k * size) (bytes size x)) n) i 0 ≡ word (part (splice xs (k * size) (bytes size x)) (i * size) size)
      here = sym (value-is size (splice xs (k * size) (bytes size x)) n i (rw put-size h) li)

      go : (c : Bool) → eqb i k ≡ c → get_or (values_of size (splice xs (k * size) (bytes size x)) n) i 0 ≡ get_or (set (values_of size xs n) k x) i 0
      go true q =
          let z : i ≡ k = eqb-true i k q in
          here
          ∙ ap (λ (v : ℕ). word (part (splice xs (k * size) (bytes size x)) (v * size) size)) z
          ∙ ap word (part-splice xs (k * size) (bytes size x) in-room size (sym lb))
          ∙ word_bytes size x b
          ∙ rw z (sym (get_or-set_same (values_of size xs n) k x 0 (rw (length-values size xs n) l)))
      go false q =
          let d : i ≡ k → ⊥ = eqb-false i k q in
          here ∙ ap word (side i d (less-or-not i k)) ∙ value-is size xs n i h li ∙ sym (get_or-set_other (values_of size xs n) k i x 0 d)

  values-put : values_of size (splice xs (k * size) (bytes size x)) n ≡ set (values_of size xs n) k x
  values-put =
      let e : length (values_of size (splice xs (k * size) (bytes size x)) n) ≡ n = length-values size (splice xs (k * size) (bytes size x)) n in
      ext_get_or 0 (values_of size (splice xs (k * size) (bytes size x)) n) (set (values_of size xs n) k x)
      (e ∙ sym (length-set (values_of size xs n) k x ∙ length-values size xs n))
      (λ i li. put-each i (rw e at li))

-- ---- a room's numbers

pub length-numbers : (room : List ℕ) → length (numbers_of room) ≡ length room / 8
unfolding numbers_of
length-numbers room = length-values 8 room (length room / 8)

pub number_read : (room : List ℕ) (k x : ℕ) → k * 8 + 8 ≤ length room → x ≡ word (part room (k * 8) 8) → x ≡ get_or (numbers_of room) k 0
unfolding numbers_of
number_read room k x h e = e ∙ value-is 8 room (length room / 8) k (omega arith) (omega arith)

pub number_put : (room after : List ℕ) (k x : ℕ) → k * 8 + 8 ≤ length room → x < 256 ^ 8 → after ≡ splice room (k * 8) (bytes 8 x) → Put numbers_of room k x after
unfolding numbers_of
number_put room after k x h l e =
    let lo : k < length room / 8 = omega arith in
    let w : length room / 8 * 8 ≤ length room = omega arith in
    let z : length after ≡ length room = ap length e ∙ put-size 8 room (length room / 8) k x w lo l in
    record { is = ap (λ (n : ℕ). values_of 8 after (n / 8)) z ∙ ap (λ (v : List ℕ). values_of 8 v (length room / 8)) e ∙ values-put 8 room (length room / 8) k x w lo l; size = z }

-- ---- rounds

pub length-rounds : (xs : List ℕ) → length (rounds_of xs) ≡ length xs / 4
unfolding rounds_of
length-rounds xs = length-values 4 xs (length xs / 4)

pub round-read : (xs : List ℕ) (k x : ℕ) → k * 4 + 4 ≤ length xs → x ≡ word (part xs (k * 4) 4) → x ≡ get_or (rounds_of xs) k 0
unfolding rounds_of
round-read xs k x h e = e ∙ value-is 4 xs (length xs / 4) k (omega arith) (omega arith)

pub round-put : (xs after : List ℕ) (k x : ℕ) → k * 4 + 4 ≤ length xs → x < 256 ^ 4 → after ≡ splice xs (k * 4) (bytes 4 x) → Put rounds_of xs k x after
unfolding rounds_of
round-put xs after k x h l e =
    let lo : k < length xs / 4 = omega arith in
    let w : length xs / 4 * 4 ≤ length xs = omega arith in
    let z : length after ≡ length xs = ap length e ∙ put-size 4 xs (length xs / 4) k x w lo l in
    record { is = ap (λ (n : ℕ). values_of 4 after (n / 4)) z ∙ ap (λ (v : List ℕ). values_of 4 v (length xs / 4)) e ∙ values-put 4 xs (length xs / 4) k x w lo l; size = z }
