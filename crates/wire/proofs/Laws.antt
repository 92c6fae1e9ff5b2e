-- The laws of `specs/Part.antt`'s definitions, for the proofs of this crate and of the crates that link it. Assumes nothing.
use mathlib.Core.Path.{◌≡◌, refl, sym, ap, ◌∙◌}
use mathlib.Core.Bool.{Bool, true, false}
use mathlib.Core.List.{List, [], ◌∷◌, ◌++◌, append_assoc, append-nil}
use Prim.Native.Nat.{ℕ, zero, suc, ◌+◌, ◌-◌, ◌*◌, ◌/◌, ◌≤◌, ◌<◌, ◌^◌}
use native.Mathlib.Numerals.{add-one}
use native.Mathlib.Omega.{arith}
use lib.Dec.{eqb, ltb}
use lib.ListN.{length, get_or, set, take, drop, replicate, length-take, length-drop, length-append, take-append-drop, length-replicate, get_or-replicate, get_or-append, drop_of_length-le}
use lib.Seq.{drop-cons, ext_get_or, get_or-take, get_or-drop, get_or-append-add, take_all, take_at, take-length, drop_at, paste, paste-suc, drop-paste, sets-eq, set_split, drop-drop, take-add}
use mathlib.Core.Logic.{⊎_elim, ◌⊎◌, inl, inr}
use native.Mathlib.Nat.{pow-suc, pow-succ', mul_assoc, one-mul, zero-add, add-zero, add_assoc}
use borrow.Author.Tests.{eq-eqb, ne_eqb, eqb-true, le-ltb, lt-ltb, ltb-true, ltb-false}
use Rattle.wire.specs.Bytes.{pick, part, alike, less, splice, word, bytes}

pub true-or-false : (b : Bool) → (b ≡ true) ⊎ (b ≡ false)
true-or-false true = inl refl
true-or-false false = inr refl

pub true-not-false : ◌≡◌ {A = Bool} true false → ⊥
true-not-false e = let z : ◌≡◌ {A = ℕ} 0 1 = cc in omega arith

pick-self : (b : Bool) → pick b true false ≡ b
pick-self true = refl
pick-self false = refl

-- ---- a part and its first byte. The places are variables of their own, tied by equations that omega proves
pub part-cons : (xs : List ℕ) (i n i' n' : ℕ) → i' ≡ i + 1 → n ≡ n' + 1 → i + n ≤ length xs → part xs i n ≡ get_or xs i 0 ∷ part xs i' n'
unfolding part
part-cons xs i n i' n' p q h =
    let l : i < length xs = omega arith in
    rw (q, add-one, p, add-one, drop-cons xs i 0)

pub part_none : (xs : List ℕ) (i : ℕ) → part xs i 0 ≡ []
unfolding part
part_none xs i = refl

-- ---- equality of two parts
module _ (a b : List ℕ) (i j n i' j' n' : ℕ) (p : i' ≡ i + 1) (q : j' ≡ j + 1) (r : n ≡ n' + 1) (ha : i + n ≤ length a) (hb : j + n ≤ length b) where
  pub alike-on : get_or a i 0 ≡ get_or b j 0 → alike (part a i n) (part b j n) ≡ alike (part a i' n') (part b j' n')
  unfolding alike
  alike-on e = rw (part-cons a i n i' n' p r ha, part-cons b j n j' n' q r hb, eq-eqb _ _ e)

  pub alike-not : (get_or a i 0 ≡ get_or b j 0 → ⊥) → alike (part a i n) (part b j n) ≡ false
  unfolding alike
  alike-not e = rw (part-cons a i n i' n' p r ha, part-cons b j n j' n' q r hb, ne_eqb _ _ e)

pub alike-none : (a b : List ℕ) (i j : ℕ) → alike (part a i 0) (part b j 0) ≡ true
unfolding alike
alike-none a b i j = rw (part_none a i, part_none b j)

-- ---- what a test says of two strings
pub alike-true : (xs ys : List ℕ) → alike xs ys ≡ true → xs ≡ ys
unfolding alike
alike-true [] [] e = refl
alike-true [] (y ∷ ys) e = absurd (true-not-false (sym e))
alike-true (x ∷ xs) [] e = absurd (true-not-false (sym e))
alike-true (x ∷ xs) (y ∷ ys) e = ⊎_elim (λ q. cc (eqb-true x y q, alike-true xs ys (rw q at e))) (λ q. absurd (true-not-false (sym (rw q at e)))) (true-or-false (eqb x y))

pub alike_refl : (xs : List ℕ) → alike xs xs ≡ true
unfolding alike
alike_refl [] = refl
alike_refl (x ∷ xs) = rw (eq-eqb x x refl, alike_refl xs)

pub alike-false : (xs ys : List ℕ) → alike xs ys ≡ false → xs ≡ ys → ⊥
alike-false xs ys e q = true-not-false (sym (rw (← q) (alike_refl xs)) ∙ e)

-- ---- order of two parts
module _ (a b : List ℕ) (i j n i' j' n' : ℕ) (p : i' ≡ i + 1) (q : j' ≡ j + 1) (r : n ≡ n' + 1) (ha : i + n ≤ length a) (hb : j + n ≤ length b) where
  pub less-on : get_or a i 0 ≡ get_or b j 0 → less (part a i n) (part b j n) ≡ less (part a i' n') (part b j' n')
  unfolding less
  less-on e =
      let l : get_or b j 0 ≤ get_or a i 0 = omega arith in
      rw (part-cons a i n i' n' p r ha, part-cons b j n j' n' q r hb, le-ltb _ _ l, eq-eqb _ _ e)

  pub less-not : (get_or a i 0 ≡ get_or b j 0 → ⊥) → less (part a i n) (part b j n) ≡ ltb (get_or a i 0) (get_or b j 0)
  unfolding less
  less-not e = rw (part-cons a i n i' n' p r ha, part-cons b j n j' n' q r hb, ne_eqb _ _ e, pick-self (ltb (get_or a i 0) (get_or b j 0)))

pub less_none : (a b : List ℕ) (i j : ℕ) → less (part a i 0) (part b j 0) ≡ false
unfolding less
less_none a b i j = rw (part_none a i, part_none b j)

-- ---- a part: its length, its bytes, and when two are the same
pub length_part : (xs : List ℕ) (i n : ℕ) → i + n ≤ length xs → length (part xs i n) ≡ n
unfolding part
length_part xs i n h = simp (length-take, length-drop) (omega arith)

pub get_d_part : (xs : List ℕ) (i n k : ℕ) → k < n → get_or (part xs i n) k 0 ≡ get_or xs (i + k) 0
unfolding part
get_d_part xs i n k h = rw (get_or-take, get_or-drop)

pub part_ext : (xs ys : List ℕ) (i n : ℕ) → length xs ≡ length ys → ((k : ℕ) → i ≤ k → k < i + n → get_or xs k 0 ≡ get_or ys k 0) → part xs i n ≡ part ys i n
unfolding part
part_ext xs ys i n e f =
    ext_get_or 0 _ _ (simp (length-take, length-drop) (rw e))
    (λ k h.
    let l : k < n = omega (arith, simp (length-take, length-drop) at h) in
    rw (get_or-take n (drop i xs) k 0 l, get_or-take n (drop i ys) k 0 l, get_or-drop i xs k 0, get_or-drop i ys k 0) (f (i + k) (omega arith) (omega arith)))

pub part-all : (xs : List ℕ) (n : ℕ) → length xs ≡ n → part xs 0 n ≡ xs
unfolding part
part-all xs n e = take_all n xs (omega arith)

-- ---- a splice
module _ (xs : List ℕ) (at : ℕ) (ys : List ℕ) (h : at + length ys ≤ length xs) where
  pub length-splice : length (splice xs at ys) ≡ length xs
  unfolding splice
  length-splice = simp (length-append, length-take, length-drop) (omega arith)

  head-length : length (take at xs) ≡ at
  head-length = simp length-take (omega arith)

  pub part-splice : (n : ℕ) → n ≡ length ys → part (splice xs at ys) at n ≡ ys
  unfolding splice part
  part-splice n e = rw (drop_at (take at xs) (ys ++ drop (at + length ys) xs) at head-length) (take_at ys _ n (sym e))

  get_d-before : (k : ℕ) → k < at → get_or (splice xs at ys) k 0 ≡ get_or xs k 0
  unfolding splice
  get_d-before k l =
      let m : k < length (take at xs) = omega (arith, head-length) in
      rw (get_or-append (take at xs) (ys ++ drop (at + length ys) xs) 0 k m) (get_or-take at xs k 0 l)

  get_d_after : (k : ℕ) → at + length ys ≤ k → get_or (splice xs at ys) k 0 ≡ get_or xs k 0
  unfolding splice
  get_d_after k l =
      let j : ℕ = k - (at + length ys) in
      let e : k ≡ length (take at xs) + (length ys + j) = omega (arith, head-length) in
      let f : at + length ys + j ≡ k = omega arith in
      ap (λ (m : ℕ). get_or (take at xs ++ (ys ++ drop (at + length ys) xs)) m 0) e
      ∙ get_or-append-add (take at xs) (ys ++ drop (at + length ys) xs) (length ys + j) 0
      ∙ get_or-append-add ys (drop (at + length ys) xs) j 0
      ∙ get_or-drop (at + length ys) xs j 0
      ∙ ap (λ (m : ℕ). get_or xs m 0) f

  pub part-splice-before : (i n : ℕ) → i + n ≤ at → part (splice xs at ys) i n ≡ part xs i n
  part-splice-before i n l = part_ext (splice xs at ys) xs i n length-splice (λ k p q. get_d-before k (omega arith))

  pub part-splice-after : (i n : ℕ) → at + length ys ≤ i → part (splice xs at ys) i n ≡ part xs i n
  part-splice-after i n l = part_ext (splice xs at ys) xs i n length-splice (λ k p q. get_d_after k (omega arith))

-- ---- numbers as bytes
pub length-bytes : (n x : ℕ) → length (bytes n x) ≡ n
unfolding bytes
length-bytes zero x = refl
length-bytes (suc n) x = ap suc (length-bytes n (x / 256))

pub word_bytes : (n x : ℕ) → x < 256 ^ n → word (bytes n x) ≡ x
unfolding bytes word
word_bytes zero x h = let h' : x < 1 = h in omega arith
word_bytes (suc n) x h =
    let h' : x < 256 ^ n * 256 = rw pow-suc at h in
    rw (word_bytes n (x / 256) (omega arith)) (omega arith)

-- what was put is read, and reading elsewhere reads what was there
module _ (xs : List ℕ) (at n x : ℕ) (h : at + n ≤ length xs) where
  fits : at + length (bytes n x) ≤ length xs
  fits = omega (arith, length-bytes n x)

  pub read-put : x < 256 ^ n → word (part (splice xs at (bytes n x)) at n) ≡ x
  read-put l = rw (part-splice xs at (bytes n x) fits n (sym (length-bytes n x))) (word_bytes n x l)

  pub read-put-before : (i m : ℕ) → i + m ≤ at → word (part (splice xs at (bytes n x)) i m) ≡ word (part xs i m)
  read-put-before i m l = ap word (part-splice-before xs at (bytes n x) fits i m l)

  pub read-put-after : (i m : ℕ) → at + n ≤ i → word (part (splice xs at (bytes n x)) i m) ≡ word (part xs i m)
  read-put-after i m l = ap word (part-splice-after xs at (bytes n x) fits i m (omega (arith, length-bytes n x)))

pub part4 : (xs : List ℕ) (at : ℕ) → at + 4 ≤ length xs → part xs at 4 ≡ get_or xs at 0 ∷ get_or xs (at + 1) 0 ∷ get_or xs (at + 2) 0 ∷ get_or xs (at + 3) 0 ∷ []
part4 xs at h =
    rw (part-cons xs at 4 (at + 1) 3 refl refl h, part-cons xs (at + 1) 3 (at + 2) 2 (omega arith) refl (omega arith), part-cons xs (at + 2) 2 (at + 3) 1 (omega arith) refl (omega arith), part-cons xs (at + 3) 1 (at + 4) 0 (omega arith) refl (omega arith), part_none)

-- ---- stores
-- a turn of a loop that copies from the front
pub copy_step : (d s : List ℕ) (k : ℕ) → k < length s → length s ≤ length d → set (take k s ++ drop k d) k (get_or s k 0) ≡ take (k + 1) s ++ drop (k + 1) d
copy_step d s k h l =
    let e = paste-suc d 0 s k 0 (omega arith) h in
    rw add-one (simp zero-add at e)

-- four stores in a row
pub put4 : (xs : List ℕ) (at b0 b1 b2 b3 : ℕ) → at + 4 ≤ length xs → set (set (set (set xs at b0) (at + 1) b1) (at + 2) b2) (at + 3) b3 ≡ splice xs at (b0 ∷ b1 ∷ b2 ∷ b3 ∷ [])
unfolding splice
put4 xs at b0 b1 b2 b3 h =
    let e1 : at + 1 ≡ suc at = omega arith in
    let e2 : at + 2 ≡ suc (suc at) = omega arith in
    let e3 : at + 3 ≡ suc (suc (suc at)) = omega arith in
    rw (e1, e2, e3) (sets-eq (b0 ∷ b1 ∷ b2 ∷ b3 ∷ []) xs at h ∙ append_assoc (take at xs) (b0 ∷ b1 ∷ b2 ∷ b3 ∷ []) (drop (at + 4) xs))

-- a part from at to the end that was lent and came back with src at its front, as a splice of the whole
pub splice-mid : (xs src : List ℕ) (at : ℕ) → at + length src ≤ length xs → take at xs ++ (splice (take (length xs - at) (drop at xs)) 0 src ++ drop (length xs - at) (drop at xs)) ≡ splice xs at src
unfolding splice
splice-mid xs src at h =
    let l : length (drop at xs) ≤ length xs - at = simp length-drop (omega arith) in
    rw (take_all (length xs - at) (drop at xs) l, drop_of_length-le (drop at xs) l, append-nil, zero-add, drop-drop)

-- one store
pub splice-one : (xs : List ℕ) (i v : ℕ) → i < length xs → set xs i v ≡ splice xs i (v ∷ [])
unfolding splice
splice-one xs i v h = rw (set_split, add-one)

-- a part's first byte
pub part-first : (xs : List ℕ) (i b : ℕ) (bs : List ℕ) → part xs i (length (b ∷ bs)) ≡ b ∷ bs → get_or xs i 0 ≡ b
part-first xs i b bs e = rw add-zero at (sym (get_d_part xs i (length (b ∷ bs)) 0 (omega arith)) ∙ ap (λ (l : List ℕ). get_or l 0 0) e)

-- what two equal parts have in common
pub part-part : (xs : List ℕ) (i n j m : ℕ) → j + m ≤ n → part (part xs i n) j m ≡ part xs (i + j) m
unfolding part
part-part xs i n j m h =
    ext_get_or 0 _ _ (simp (length-take, length-drop, length-take, length-drop) (omega arith))
    (λ k l.
    let b : k < m = omega (arith, simp length-take at l) in
    let c : j + k < n = omega arith in
    rw (get_or-take m (drop j (take n (drop i xs))) k 0 b, get_or-take m (drop (i + j) xs) k 0 b, get_or-drop j (take n (drop i xs)) k 0, get_or-take n (drop i xs) (j + k) 0 c, get_or-drop i xs (j + k) 0, get_or-drop (i + j) xs k 0, add_assoc i j k))

pub part-within : (xs ys : List ℕ) (i n j m : ℕ) → part xs i n ≡ part ys i n → j + m ≤ n → part xs (i + j) m ≡ part ys (i + j) m
part-within xs ys i n j m e h = sym (part-part xs i n j m h) ∙ ap (λ (l : List ℕ). part l j m) e ∙ part-part ys i n j m h

pub part_at : (xs ys : List ℕ) (i n k : ℕ) → part xs i n ≡ part ys i n → k < n → get_or xs (i + k) 0 ≡ get_or ys (i + k) 0
part_at xs ys i n k e h = sym (get_d_part xs i n k h) ∙ ap (λ (l : List ℕ). get_or l k 0) e ∙ get_d_part ys i n k h

-- a part of k bytes from at that was lent and came back as ys, as a splice of the whole
pub put-mid : (xs ys : List ℕ) (at k : ℕ) → length ys ≡ k → take at xs ++ (ys ++ drop k (drop at xs)) ≡ splice xs at ys
unfolding splice
put-mid xs ys at k e = rw (← e, drop-drop)

pub less-or-not : (m n : ℕ) → (m < n) ⊎ (n ≤ m)
less-or-not m n = ⊎_elim (λ e. inl (ltb-true m n e)) (λ e. inr (ltb-false m n e)) (true-or-false (ltb m n))

-- ---- two parts in a row, and two numbers in a row
pub part-add : (xs : List ℕ) (i n m : ℕ) → part xs i (n + m) ≡ part xs i n ++ part xs (i + n) m
unfolding part
part-add xs i n m = rw (take-add, drop-drop)

pub word-append : (xs ys : List ℕ) → word (xs ++ ys) ≡ word xs + 256 ^ length xs * word ys
unfolding word
word-append [] ys = rw (one-mul, zero-add)
word-append (x ∷ xs) ys =
    let e : 256 ^ suc (length xs) * word ys ≡ 256 * (256 ^ length xs * word ys) = rw (pow-succ', mul_assoc) in
    rw (word-append xs ys, e) (omega arith)

pub word-eight : (xs : List ℕ) (at : ℕ) → at + 8 ≤ length xs → word (part xs at 8) ≡ word (part xs at 4) + word (part xs (at + 4) 4) * 4294967296
word-eight xs at h =
    let l : length (part xs at 4) ≡ 4 = length_part xs at 4 (omega arith) in
    ap word (part-add xs at 4 4) ∙ word-append (part xs at 4) (part xs (at + 4) 4) ∙ rw l (omega arith)

-- eight stores in a row
pub put8 : (xs : List ℕ) (at b0 b1 b2 b3 b4 b5 b6 b7 : ℕ) → at + 8 ≤ length xs → set (set (set (set (set (set (set (set xs at b0) (at + 1) b1) (at + 2) b2) (at + 3) b3) (at + 4) b4) (at + 5) b5) (at + 6) b6) (at + 7) b7 ≡ splice xs at (b0 ∷ b1 ∷ b2 ∷ b3 ∷ b4 ∷ b5 ∷ b6 ∷ b7 ∷ [])
unfolding splice
put8 xs at b0 b1 b2 b3 b4 b5 b6 b7 h =
    let bs : List ℕ = b0 ∷ b1 ∷ b2 ∷ b3 ∷ b4 ∷ b5 ∷ b6 ∷ b7 ∷ [] in
    let e1 : at + 1 ≡ suc at = omega arith in
    let e2 : at + 2 ≡ suc (suc at) = omega arith in
    let e3 : at + 3 ≡ suc (suc (suc at)) = omega arith in
    let e4 : at + 4 ≡ suc (suc (suc (suc at))) = omega arith in
    let e5 : at + 5 ≡ suc (suc (suc (suc (suc at)))) = omega arith in
    let e6 : at + 6 ≡ suc (suc (suc (suc (suc (suc at))))) = omega arith in
    let e7 : at + 7 ≡ suc (suc (suc (suc (suc (suc (suc at)))))) = omega arith in
    rw (e1, e2, e3, e4, e5, e6, e7) (sets-eq bs xs at h ∙ append_assoc (take at xs) bs (drop (at + 8) xs))

-- ---- the order is strict and transitive
pub less-inv : (x y : ℕ) (xs ys : List ℕ) → less (x ∷ xs) (y ∷ ys) ≡ true → (x < y) ⊎ ((x ≡ y) × (less xs ys ≡ true))
unfolding less
less-inv x y xs ys e =
    ⊎_elim
    (λ (l : x < y). inl l)
    (λ (l : y ≤ x).
    let e1 = rw (le-ltb x y l) at e in
    ⊎_elim (λ q. inr (eqb-true x y q, rw q at e1)) (λ q. absurd (true-not-false (sym (rw q at e1)))) (true-or-false (eqb x y)))
    (less-or-not x y)

less-first : (x y : ℕ) (xs ys : List ℕ) → x < y → less (x ∷ xs) (y ∷ ys) ≡ true
unfolding less
less-first x y xs ys l = rw (lt-ltb x y l)

less-rest : (x : ℕ) (xs ys : List ℕ) → less (x ∷ xs) (x ∷ ys) ≡ less xs ys
unfolding less
less-rest x xs ys = let l : x ≤ x = omega arith in rw (le-ltb x x l, eq-eqb x x refl)

pub less-trans : (xs ys zs : List ℕ) → less xs ys ≡ true → less ys zs ≡ true → less xs zs ≡ true
unfolding less
less-trans [] [] zs e f = absurd (true-not-false (sym e))
less-trans [] (y ∷ ys) [] e f = absurd (true-not-false (sym f))
less-trans [] (y ∷ ys) (z ∷ zs) e f = refl
less-trans (x ∷ xs) [] zs e f = absurd (true-not-false (sym e))
less-trans (x ∷ xs) (y ∷ ys) [] e f = absurd (true-not-false (sym f))
less-trans (x ∷ xs) (y ∷ ys) (z ∷ zs) e f =
    ⊎_elim
    (λ (a : x < y).
    ⊎_elim
    (λ (b : y < z). less-first x z xs zs (omega arith))
    (λ (b : (y ≡ z) × (less ys zs ≡ true)). less-first x z xs zs (omega arith))
    (less-inv y z ys zs f))
    (λ (a : (x ≡ y) × (less xs ys ≡ true)).
    ⊎_elim
    (λ (b : y < z). less-first x z xs zs (omega arith))
    (λ (b : (y ≡ z) × (less ys zs ≡ true)). rw (a.0, b.0) (less-rest z xs zs ∙ less-trans xs ys zs a.1 b.1))
    (less-inv y z ys zs f))
    (less-inv x y xs ys e)

pub less-irrefl : (xs : List ℕ) → less xs xs ≡ false
unfolding less
less-irrefl [] = refl
less-irrefl (x ∷ xs) = less-rest x xs xs ∙ less-irrefl xs

-- ---- a copy under way: `lib.Seq.paste`. All of it is a splice; a turn that copies to an earlier place; a turn that fills
pub paste_all : (d : List ℕ) (at : ℕ) (s : List ℕ) (n : ℕ) → length s ≡ n → paste d at s n ≡ splice d at s
unfolding splice
paste_all d at s n e = rw (← e, take-length) (append_assoc (take at d) s (drop (at + length s) d))

paste-past : (d : List ℕ) (at : ℕ) (s : List ℕ) (k i : ℕ) → at ≤ length d → k ≤ length s → at + k ≤ i → get_or (paste d at s k) i 0 ≡ get_or d i 0
paste-past d at s k i h l m =
    let q : at + k + (i - (at + k)) ≡ i = omega arith in
    let e = ap (λ (z : List ℕ). get_or z (i - (at + k)) 0) (drop-paste d at s k h l) in
    rw q at (sym (get_or-drop (at + k) (paste d at s k) (i - (at + k)) 0) ∙ e ∙ get_or-drop (at + k) d (i - (at + k)) 0)

pub paste-down : (d : List ℕ) (from to n k k' : ℕ) → k' ≡ k + 1 → to ≤ from → from + n ≤ length d → k < n → set (paste d to (part d from n) k) (to + k) (get_or (paste d to (part d from n) k) (from + k) 0) ≡ paste d to (part d from n) k'
paste-down d from to n k k' e h l m =
    let lp : length (part d from n) ≡ n = length_part d from n l in
    let g : get_or (paste d to (part d from n) k) (from + k) 0 ≡ get_or (part d from n) k 0 = paste-past d to (part d from n) k (from + k) (omega arith) (omega arith) (omega arith) ∙ sym (get_d_part d from n k m) in
    ap (λ (v : ℕ). set (paste d to (part d from n) k) (to + k) v) g ∙ paste-suc d to (part d from n) k 0 (omega arith) (omega arith) ∙ rw (e, add-one)

pub paste-fill : (d : List ℕ) (at n k k' : ℕ) → k' ≡ k + 1 → at + n ≤ length d → k < n → set (paste d at (replicate n 0) k) (at + k) 0 ≡ paste d at (replicate n 0) k'
paste-fill d at n k k' e l m =
    let lr : length (replicate {A = ℕ} n 0) ≡ n = length-replicate n 0 in
    let g : get_or (replicate {A = ℕ} n 0) k 0 ≡ 0 = get_or-replicate n k 0 0 m in
    ap (λ (v : ℕ). set (paste d at (replicate n 0) k) (at + k) v) (sym g) ∙ paste-suc d at (replicate n 0) k 0 (omega arith) (omega arith) ∙ rw (e, add-one)

-- a part put back where it stands
pub splice-own : (xs : List ℕ) (at n : ℕ) → at + n ≤ length xs → splice xs at (part xs at n) ≡ xs
unfolding splice part
splice-own xs at n h =
    let l : length (take n (drop at xs)) ≡ n = simp (length-take, length-drop) (omega arith) in
    let e : take n (drop at xs) ++ drop (at + n) xs ≡ drop at xs = rw (← drop-drop n at xs) (take-append-drop n (drop at xs)) in
    rw (l, e) (take-append-drop at xs)
