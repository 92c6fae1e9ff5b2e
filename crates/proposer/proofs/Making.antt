-- The laws of `specs/Header.antt`: the writes in a row are the header. Assumes nothing.
use mathlib.Core.Path.{◌≡◌, refl, ap, ◌∙◌}
use mathlib.Core.Bool.{true}
use mathlib.Core.List.{List, [], ◌∷◌, append-nil}
use Prim.Native.Nat.{ℕ, ◌+◌, ◌*◌, ◌/◌, ◌≤◌, ◌<◌}
use native.Mathlib.Nat.{div-mul-le_self, mul-le-mul_left}
use native.Mathlib.Omega.{arith}
use lib.ListN.{length, take, length-replicate, drop_of_length-le}
use Rattle.wire.specs.Bytes.{part, splice, bytes}
use Rattle.wire.specs.Items.{items}
use Rattle.wire.proofs.Laws.{length_part}
use Rattle.wire.proofs.Lists.{length-items}
use Rattle.proposer.specs.Sorted.{put_in, sorted_from, sorted_once, Laid}
use Rattle.proposer.specs.State.{zeros, own_in, round_in, parent_count, waiting_count, parents_in, waiting_in, valid_state}
use Rattle.proposer.specs.Header.{with_list, header_of, header_made}
use Rattle.proposer.proofs.Order.{put-most, items-part}
use Rattle.proposer.proofs.Values.{is_state}

pub length-zeros : (n : ℕ) → length (zeros n) ≡ n
unfolding zeros
length-zeros n = length-replicate n 0

pub all-zeros : (xs : List ℕ) (n : ℕ) → length xs ≡ n → splice xs 0 (zeros n) ≡ zeros n
unfolding splice
all-zeros xs n e =
    let l : length xs ≤ 0 + length (zeros n) = omega (arith, length-zeros n) in
    rw (drop_of_length-le xs {i = 0 + length (zeros n)} l) (append-nil (zeros n))

pub head-is : (s h a b c : List ℕ) (n : ℕ) → length h ≡ 3402 → a ≡ splice h 0 (zeros 3402) → b ≡ splice a 32 (take 32 s) → n ≡ round_in s → c ≡ splice b 64 (bytes 8 n) → c ≡ splice (splice (zeros 3402) 32 (own_in s)) 64 (bytes 8 (round_in s))
unfolding own_in part
head-is s h a b c n l ea eb en ec = ec ∙ rw (eb, ea, en, all-zeros h 3402 l)

-- ---- a list
sorted-most : (ys xs : List (List ℕ)) → length (sorted_from ys xs) ≤ length ys + length xs
unfolding sorted_from
sorted-most ys [] = omega arith
sorted-most ys (x ∷ xs) = omega (arith, sorted-most (put_in x ys) xs, put-most x ys)

pub sorted-few : (xs : List (List ℕ)) → length (sorted_once xs) ≤ length xs
unfolding sorted_once
sorted-few xs = omega (arith, sorted-most [] xs)

module _ (size : ℕ) (src : List ℕ) (at n : ℕ) (xs : List ℕ) (to r : ℕ) (ys : List ℕ) (a : Laid (sorted_once (items size src at n)) xs to r ys) where
  pub list-few : n < 256 → r < 256
  list-few h = omega (arith, a.count, sorted-few (items size src at n), length-items size src at n)

  pub list-is : (k : ℕ) (zs : List ℕ) → zs ≡ splice ys k (r ∷ []) → zs ≡ with_list xs k to (sorted_once (items size src at n))
  unfolding with_list
  list-is k zs e = e ∙ rw (a.bytes, a.count)

-- all the items of src
pub whole-few : (size : ℕ) (src xs : List ℕ) (to r : ℕ) (ys : List ℕ) → Laid (sorted_once (items size src 0 (length src / size))) xs to r ys → 32 ≤ size → to + length src ≤ 3402 → r < 256
whole-few size src xs to r ys a g h =
    let n : ℕ = length src / size in
    let m : n * 32 ≤ n * size = mul-le-mul_left n g in
    list-few size src 0 n xs to r ys a (omega (arith, div-mul-le_self (length src) size))

-- ---- all of it
pub header_is : (s a b c : List ℕ) (n m : ℕ) → a ≡ splice (splice (zeros 3402) 32 (own_in s)) 64 (bytes 8 (round_in s)) → n ≡ parent_count s → b ≡ with_list a 72 74 (sorted_once (items 32 s 38 n)) → m ≡ waiting_count s → c ≡ with_list b 73 1098 (sorted_once (items 36 s 1062 m)) → c ≡ header_made s
unfolding header_made header_of parents_in waiting_in
header_is s a b c n m ea en eb em ec = ec ∙ rw (eb, ea, en, em)

-- of the lists as parts of the state
module _ (s : List ℕ) (h : valid_state s ≡ true) (ps : List ℕ) (ep : ps ≡ part s 38 (parent_count s * 32)) where
  pub parents-long : length ps ≤ 1024
  parents-long = omega (arith, is_state s h, ap length ep, length_part s 38 (parent_count s * 32) (omega (arith, is_state s h)))

  parents-are : items 32 ps 0 (length ps / 32) ≡ items 32 s 38 (parent_count s)
  parents-are = items-part 32 s 38 (parent_count s) ps (omega arith) (omega (arith, is_state s h)) ep

  module _ (qs : List ℕ) (eq : qs ≡ part s 1062 (waiting_count s * 36)) where
    pub waiting-long : length qs ≤ 2304
    waiting-long = omega (arith, is_state s h, ap length eq, length_part s 1062 (waiting_count s * 36) (omega (arith, is_state s h)))

    waiting-are : items 36 qs 0 (length qs / 36) ≡ items 36 s 1062 (waiting_count s)
    waiting-are = items-part 36 s 1062 (waiting_count s) qs (omega arith) (omega (arith, is_state s h)) eq

    pub header-parts : (a b c : List ℕ) → a ≡ splice (splice (zeros 3402) 32 (own_in s)) 64 (bytes 8 (round_in s)) → b ≡ with_list a 72 74 (sorted_once (items 32 ps 0 (length ps / 32))) → c ≡ with_list b 73 1098 (sorted_once (items 36 qs 0 (length qs / 36))) → c ≡ header_made s
    header-parts a b c ea eb ec = header_is s a b c (parent_count s) (waiting_count s) ea refl (eb ∙ rw parents-are) refl (ec ∙ rw waiting-are)
