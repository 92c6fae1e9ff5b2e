-- The laws of `specs/Items.antt`: items of one size are a list. Assumes nothing.
use mathlib.Core.Path.{◌≡◌, refl, sym, ap, ◌∙◌}
use mathlib.Core.Bool.{Bool, true, false}
use mathlib.Core.List.{List, [], ◌∷◌, ◌++◌, append_assoc, append-nil}
use Prim.Native.Nat.{ℕ, zero, suc, ◌+◌, ◌-◌, ◌*◌, ◌≤◌, ◌<◌}
use native.Mathlib.Numerals.{add-one}
use native.Mathlib.Nat.{zero-mul, suc-mul, add-mul, add-zero, zero-add, sub-zero, mul-le-mul_right}
use native.Mathlib.Omega.{arith}
use lib.ListN.{length, get_or, set, take, drop, length-take, length-drop, length-append, take-append-drop}
use lib.Seq.{take_at, drop_at, take-append_seam, drop-append-add, drop-append_seam, length-take-le, drop-drop, drop-cons, take-suc}
use Rattle.wire.specs.Bytes.{part, splice}
use Rattle.wire.specs.Items.{chunks, items, item_in, flat, keeps, first_of, sum_of, all_of, keys}
use Rattle.std.specs.Prelude.{Option, Some, None}
use Rattle.wire.proofs.Laws.{length_part, true-not-false}

-- ---- products
pub next-mul : (i s : ℕ) → (i + 1) * s ≡ i * s + s
next-mul i s = rw (add-one, suc-mul)

pub gap-mul : (m i s : ℕ) → m ≤ i → m * s + (i - m) * s ≡ i * s
gap-mul m i s h =
    let e : m + (i - m) ≡ i = omega arith in
    sym (add-mul m (i - m) s) ∙ ap (λ (k : ℕ). k * s) e

-- item i ends before n items do
pub below-mul : (i n s : ℕ) → i < n → i * s + s ≤ n * s
below-mul i n s h =
    let l : i + 1 ≤ n = omega arith in
    let k : (i + 1) * s ≤ n * s = mul-le-mul_right s l in
    omega (arith, next-mul i s)

-- ---- a piece in the middle
pub splice-seam : (a b b' c : List ℕ) (at : ℕ) → length a ≡ at → length b' ≡ length b → splice (a ++ (b ++ c)) at b' ≡ a ++ (b' ++ c)
unfolding splice
splice-seam a b b' c at e f = rw (← e, take-append_seam, f, drop-append-add a (b ++ c) (length b), drop-append_seam)

pub part-seam : (a b c : List ℕ) (at n : ℕ) → length a ≡ at → length b ≡ n → part (a ++ (b ++ c)) at n ≡ b
unfolding part
part-seam a b c at n e f = rw (drop_at a (b ++ c) at e) (take_at b c n f)

-- a field written behind a field is both fields written
pub splice-next : (xs ys zs : List ℕ) (at at' : ℕ) → at' ≡ at + length ys → at' + length zs ≤ length xs → splice (splice xs at ys) at' zs ≡ splice xs at (ys ++ zs)
unfolding splice
splice-next xs ys zs at at' e h =
    let b : List ℕ = take (length zs) (drop (at + length ys) xs) in
    let c : List ℕ = drop (length zs) (drop (at + length ys) xs) in
    let la : length (take at xs ++ ys) ≡ at' = simp (length-append, length-take) (omega arith) in
    let lb : length zs ≡ length b = simp (length-take, length-drop) (omega arith) in
    let s : take at xs ++ (ys ++ drop (at + length ys) xs) ≡ (take at xs ++ ys) ++ (b ++ c) = rw (take-append-drop (length zs) (drop (at + length ys) xs)) (sym (append_assoc (take at xs) ys (drop (at + length ys) xs))) in
    let m : at + length (ys ++ zs) ≡ at + length ys + length zs = simp length-append (omega arith) in
    ap (λ (l : List ℕ). splice l at' zs) s
    ∙ splice-seam (take at xs ++ ys) b zs c at' la lb
    ∙ rw (m, append_assoc, append_assoc, drop-drop)

-- ---- how many, how long, and which
pub data Sized (size : ℕ) : List (List ℕ) → Type 0 where
  none : Sized size []
  one : {r : List ℕ} {rs : List (List ℕ)} → length r ≡ size → Sized size rs → Sized size (r ∷ rs)

pub sized-at : (size : ℕ) (rs : List (List ℕ)) (i : ℕ) → Sized size rs → i < length rs → length (get_or rs i []) ≡ size
sized-at size [] i none h = absurd (omega arith)
sized-at size (r ∷ rs) zero (one e s) h = e
sized-at size (r ∷ rs) (suc i) (one e s) h = sized-at size rs i s (omega arith)

pub length-chunks : (size : ℕ) (xs : List ℕ) (n : ℕ) → length (chunks size xs n) ≡ n
unfolding chunks
length-chunks size xs zero = refl
length-chunks size xs (suc n) = ap suc (length-chunks size (drop size xs) n)

pub chunks-sized : (size : ℕ) (xs : List ℕ) (n : ℕ) → n * size ≤ length xs → Sized size (chunks size xs n)
unfolding chunks
chunks-sized size xs zero h = none
chunks-sized size xs (suc n) h =
    let q : suc n * size ≡ n * size + size = suc-mul n size in
    one (length-take-le size xs (omega arith)) (chunks-sized size (drop size xs) n (simp length-drop (omega arith)))

pub sized-append : (size : ℕ) (xs ys : List (List ℕ)) → Sized size xs → Sized size ys → Sized size (xs ++ ys)
sized-append size [] ys none s = s
sized-append size (x ∷ xs) ys (one e r) s = one e (sized-append size xs ys r s)

pub sized_set : (size : ℕ) (rs : List (List ℕ)) (i : ℕ) (row : List ℕ) → length row ≡ size → Sized size rs → Sized size (set rs i row)
sized_set size [] i row l none = none
sized_set size (r ∷ rs) zero row l (one e s) = one l s
sized_set size (r ∷ rs) (suc i) row l (one e s) = one e (sized_set size rs i row l s)

pub sized-take : (size : ℕ) (rs : List (List ℕ)) (i : ℕ) → Sized size rs → Sized size (take i rs)
sized-take size [] zero none = none
sized-take size [] (suc i) none = none
sized-take size (r ∷ rs) zero (one e s) = none
sized-take size (r ∷ rs) (suc i) (one e s) = one e (sized-take size rs i s)

pub length-flat : (size : ℕ) (rs : List (List ℕ)) → Sized size rs → length (flat rs) ≡ length rs * size
unfolding flat
length-flat size [] none = sym (zero-mul size)
length-flat size (r ∷ rs) (one e s) = rw (length-append, e, length-flat size rs s, suc-mul) (omega arith)

pub flat_append : (xs ys : List (List ℕ)) → flat (xs ++ ys) ≡ flat xs ++ flat ys
unfolding flat
flat_append [] ys = refl
flat_append (x ∷ xs) ys = rw (flat_append xs ys) (sym (append_assoc x (flat xs) (flat ys)))

pub flat-one : (r : List ℕ) → flat (r ∷ []) ≡ r
unfolding flat
flat-one r = append-nil r

-- the rows of a flat list are its rows
pub chunks-flat : (size : ℕ) (rs : List (List ℕ)) (rest : List ℕ) → Sized size rs → chunks size (flat rs ++ rest) (length rs) ≡ rs
unfolding chunks flat
chunks-flat size [] rest none = refl
chunks-flat size (r ∷ rs) rest (one e s) =
    rw (append_assoc r (flat rs) rest, take_at r (flat rs ++ rest) size e, drop_at r (flat rs ++ rest) size e, chunks-flat size rs rest s)

pub flat-chunks : (size : ℕ) (xs : List ℕ) (n : ℕ) → flat (chunks size xs n) ++ drop (n * size) xs ≡ xs
unfolding chunks flat
flat-chunks size xs zero = rw zero-mul
flat-chunks size xs (suc n) =
    let q : suc n * size ≡ size + n * size = omega (arith, suc-mul n size) in
    let e : drop (suc n * size) xs ≡ drop (n * size) (drop size xs) = rw (q, drop-drop) in
    rw (e, append_assoc, flat-chunks size (drop size xs) n) (take-append-drop size xs)

chunks-get : (size : ℕ) (xs : List ℕ) (n i : ℕ) → i < n → get_or (chunks size xs n) i [] ≡ part xs (i * size) size
unfolding chunks part
chunks-get size xs zero i h = absurd (omega arith)
chunks-get size xs (suc n) zero h = rw zero-mul
chunks-get size xs (suc n) (suc i) h =
    let q : suc i * size ≡ size + i * size = omega (arith, suc-mul i size) in
    chunks-get size (drop size xs) n i (omega arith) ∙ rw (q, drop-drop)

pub length-items : (size : ℕ) (xs : List ℕ) (at n : ℕ) → length (items size xs at n) ≡ n
unfolding items
length-items size xs at n = length-chunks size (drop at xs) n

module _ (size : ℕ) (xs : List ℕ) (at n : ℕ) (h : at + n * size ≤ length xs) where
  pub items-sized : Sized size (items size xs at n)
  unfolding items
  items-sized = chunks-sized size (drop at xs) n (simp length-drop (omega arith))

  pub item-fits : (i : ℕ) → i < n → at + i * size + size ≤ length xs
  item-fits i l = omega (arith, below-mul i n size l)

  pub item-is : (i : ℕ) → i < n → item_in size xs at i ≡ get_or (items size xs at n) i []
  unfolding items item_in part
  item-is i l = sym (chunks-get size (drop at xs) n i l ∙ rw (part, drop-drop))

  pub item-length : (i : ℕ) → i < n → length (item_in size xs at i) ≡ size
  unfolding item_in
  item-length i l = length_part xs (at + i * size) size (item-fits i l)

-- ---- a search, a sum and a test of all, one at a time
module _ (test : List ℕ → Bool) (rs : List (List ℕ)) (i i' : ℕ) (e : i' ≡ i + 1) (h : i < length rs) where
  pub first-hit : test (get_or rs i []) ≡ true → first_of test (drop i rs) i ≡ Some i
  unfolding first_of
  first-hit q = rw (drop-cons rs i [] h, q, first_of)

  pub first-miss : test (get_or rs i []) ≡ false → first_of test (drop i rs) i ≡ first_of test (drop i' rs) i'
  unfolding first_of
  first-miss q = rw (e, add-one, drop-cons rs i [] h, q, first_of)

  pub all-on : test (get_or rs i []) ≡ true → all_of test (drop i rs) ≡ all_of test (drop i' rs)
  unfolding all_of
  all-on q = rw (e, add-one, drop-cons rs i [] h, q, all_of)

  pub all-stop : test (get_or rs i []) ≡ false → all_of test (drop i rs) ≡ false
  unfolding all_of
  all-stop q = rw (drop-cons rs i [] h, q, all_of)

pub sum-on : (f : List ℕ → ℕ) (rs : List (List ℕ)) (i i' : ℕ) → i' ≡ i + 1 → i < length rs → sum_of f (drop i rs) ≡ f (get_or rs i []) + sum_of f (drop i' rs)
unfolding sum_of
sum-on f rs i i' e h = rw (drop-cons rs i [] h, e, add-one)

pub sum-append : (f : List ℕ → ℕ) (xs ys : List (List ℕ)) → sum_of f (xs ++ ys) ≡ sum_of f xs + sum_of f ys
unfolding sum_of
sum-append f [] ys = sym (zero-add _)
sum-append f (x ∷ xs) ys = rw (sum-append f xs ys) (omega arith)

-- ---- keys
pub length-keys : (rs : List (List ℕ)) → length (keys rs) ≡ length rs
unfolding keys
length-keys [] = refl
length-keys (r ∷ rs) = ap suc (length-keys rs)

-- ---- what a search says
pub record FoundFrom (test : List ℕ → Bool) (rs : List (List ℕ)) (j i : ℕ) : Type 0 where
  pub k : ℕ
  pub at : i ≡ j + k
  pub within : k < length rs
  pub there : test (get_or rs k []) ≡ true
  pub first : (l : ℕ) → l < k → test (get_or rs l []) ≡ false

none_before : (test : List ℕ → Bool) (r : List ℕ) (rs : List (List ℕ)) (k : ℕ) → test r ≡ false → ((l : ℕ) → l < k → test (get_or rs l []) ≡ false) → (l : ℕ) → l < suc k → test (get_or (r ∷ rs) l []) ≡ false
none_before test r rs k e f zero h = e
none_before test r rs k e f (suc l) h = f l (omega arith)

pub first_found : (test : List ℕ → Bool) (rs : List (List ℕ)) (j i : ℕ) → first_of test rs j ≡ Some i → FoundFrom test rs j i
unfolding first_of
first_found test [] j i q = let z : ◌≡◌ {A = ℕ} 0 1 = cc in absurd (omega arith)
first_found test (r ∷ rs) j i q = go (first_found test rs (suc j) i) (test r) refl q where
  go : (first_of test rs (suc j) ≡ Some i → FoundFrom test rs (suc j) i) → (b : Bool) → test r ≡ b → first_of test (r ∷ rs) j ≡ Some i → FoundFrom test (r ∷ rs) j i
  go h true e q =
      let g : j ≡ i = cc (rw (e, first_of) at q) in
      record { k = 0; at = omega arith; within = omega arith; there = e; first = λ l m. absurd (omega arith) }
  go h false e q =
      let x = h (rw (e, first_of) at q) in
      record { k = suc x.k; at = omega (arith, x.at); within = omega (arith, x.within); there = x.there; first = none_before test r rs x.k e x.first }

pub first-nothing : (test : List ℕ → Bool) (rs : List (List ℕ)) (j : ℕ) → first_of test rs j ≡ None → (k : ℕ) → k < length rs → test (get_or rs k []) ≡ false
unfolding first_of
first-nothing test [] j q k l = absurd (omega arith)
first-nothing test (r ∷ rs) j q k l = go (first-nothing test rs (suc j)) (test r) refl q k l where
  go : (first_of test rs (suc j) ≡ None → (k : ℕ) → k < length rs → test (get_or rs k []) ≡ false) → (b : Bool) → test r ≡ b → first_of test (r ∷ rs) j ≡ None → (k : ℕ) → k < length (r ∷ rs) → test (get_or (r ∷ rs) k []) ≡ false
  go h true e q k l = let z : ◌≡◌ {A = ℕ} 0 1 = cc (rw (e, first_of) at q) in absurd (omega arith)
  go h false e q k l = none_before test r rs (length rs) e (h (rw (e, first_of) at q)) k l

-- after an append what was found is found, and what was not is looked for in the new ones
pub first-append-old : (test : List ℕ → Bool) (rs ss : List (List ℕ)) (j i : ℕ) → first_of test rs j ≡ Some i → first_of test (rs ++ ss) j ≡ Some i
unfolding first_of
first-append-old test [] ss j i q = let z : ◌≡◌ {A = ℕ} 0 1 = cc in absurd (omega arith)
first-append-old test (r ∷ rs) ss j i q = go (first-append-old test rs ss (suc j) i) (test r) refl q where
  go : (first_of test rs (suc j) ≡ Some i → first_of test (rs ++ ss) (suc j) ≡ Some i) → (b : Bool) → test r ≡ b → first_of test (r ∷ rs) j ≡ Some i → first_of test ((r ∷ rs) ++ ss) j ≡ Some i
  go h true e q = rw (e, first_of) (rw (e, first_of) at q)
  go h false e q = rw (e, first_of) (h (rw (e, first_of) at q))

pub first-append-new : (test : List ℕ → Bool) (rs ss : List (List ℕ)) (j : ℕ) → first_of test rs j ≡ None → first_of test (rs ++ ss) j ≡ first_of test ss (j + length rs)
unfolding first_of
first-append-new test [] ss j q = rw add-zero
first-append-new test (r ∷ rs) ss j q = go (first-append-new test rs ss (suc j)) (test r) refl q where
  go : (first_of test rs (suc j) ≡ None → first_of test (rs ++ ss) (suc j) ≡ first_of test ss (suc j + length rs)) → (b : Bool) → test r ≡ b → first_of test (r ∷ rs) j ≡ None → first_of test ((r ∷ rs) ++ ss) j ≡ first_of test ss (j + length (r ∷ rs))
  go h true e q = let z : ◌≡◌ {A = ℕ} 0 1 = cc (rw (e, first_of) at q) in absurd (omega arith)
  go h false e q =
      let n : j + suc (length rs) ≡ suc j + length rs = omega arith in
      rw (n, e, first_of) (h (rw (e, first_of) at q))

-- what was found is one of the items: for `item` after a `find`. f is what the find answered
module _ (size : ℕ) (test : List ℕ → Bool) (xs : List ℕ) (at n : ℕ) (f : Option ℕ) (i : ℕ) (e : f ≡ first_of test (items size xs at n) 0) (g : f ≡ Some i) where
  pub found_below : i < n
  found_below =
      let y = first_found test (items size xs at n) 0 i (sym e ∙ g) in
      omega (arith, length-items size xs at n, y.at, y.within)

  pub found-there : test (get_or (items size xs at n) i []) ≡ true
  found-there =
      let y = first_found test (items size xs at n) 0 i (sym e ∙ g) in
      let k : y.k ≡ i = omega (arith, y.at) in
      rw k at y.there

  module _ (h : at + n * size ≤ length xs) where
    pub found-fits : at + i * size + size ≤ length xs
    found-fits = item-fits size xs at n h i found_below

    pub found-is : (r : List ℕ) → r ≡ item_in size xs at i → r ≡ get_or (items size xs at n) i []
    found-is r q = q ∙ item-is size xs at n h i found_below

    pub found-length : (r : List ℕ) → r ≡ item_in size xs at i → length r ≡ size
    found-length r q = ap length q ∙ item-length size xs at n h i found_below

-- ---- what a test of all says of each
pub all-at : (test : List ℕ → Bool) (rs : List (List ℕ)) (i : ℕ) → all_of test rs ≡ true → i < length rs → test (get_or rs i []) ≡ true
unfolding all_of
all-at test [] i e l = absurd (omega arith)
all-at test (r ∷ rs) i e l = go (all-at test rs) (test r) refl e i l where
  go : ((i : ℕ) → all_of test rs ≡ true → i < length rs → test (get_or rs i []) ≡ true) → (b : Bool) → test r ≡ b → all_of test (r ∷ rs) ≡ true → (i : ℕ) → i < length (r ∷ rs) → test (get_or (r ∷ rs) i []) ≡ true
  go h true q e zero l = q
  go h true q e (suc i) l = h i (rw (q, all_of) at e) (omega arith)
  go h false q e i l = absurd (true-not-false (sym (rw (q, all_of) at e)))

-- ---- those that a test keeps
pub keeps-append : (keep : List ℕ → Bool) (xs ys : List (List ℕ)) → keeps keep (xs ++ ys) ≡ keeps keep xs ++ keeps keep ys
unfolding keeps
keeps-append keep [] ys = refl
keeps-append keep (x ∷ xs) ys = go (keeps-append keep xs ys) (keep x) refl where
  go : keeps keep (xs ++ ys) ≡ keeps keep xs ++ keeps keep ys → (b : Bool) → keep x ≡ b → keeps keep ((x ∷ xs) ++ ys) ≡ keeps keep (x ∷ xs) ++ keeps keep ys
  go h true e = rw (e, h, keeps)
  go h false e = rw (e, h, keeps)

pub keeps-sized : (size : ℕ) (keep : List ℕ → Bool) (rs : List (List ℕ)) → Sized size rs → Sized size (keeps keep rs)
unfolding keeps
keeps-sized size keep [] none = none
keeps-sized size keep (r ∷ rs) (one l s) = go (keeps-sized size keep rs s) (keep r) refl where
  go : Sized size (keeps keep rs) → (b : Bool) → keep r ≡ b → Sized size (keeps keep (r ∷ rs))
  go h true e = rw (e, keeps) (one l h)
  go h false e = rw (e, keeps) h

pub keeps_fewer : (keep : List ℕ → Bool) (rs : List (List ℕ)) → length (keeps keep rs) ≤ length rs
unfolding keeps
keeps_fewer keep [] = omega arith
keeps_fewer keep (r ∷ rs) = go (keeps_fewer keep rs) (keep r) refl where
  go : length (keeps keep rs) ≤ length rs → (b : Bool) → keep r ≡ b → length (keeps keep (r ∷ rs)) ≤ length (r ∷ rs)
  go h true e = rw (e, keeps) (omega arith)
  go h false e = rw (e, keeps) (omega arith)

-- one more row
module _ (keep : List ℕ → Bool) (rs : List (List ℕ)) (i : ℕ) (l : i < length rs) where
  pub keeps-yes : keep (get_or rs i []) ≡ true → keeps keep (take (i + 1) rs) ≡ keeps keep (take i rs) ++ (get_or rs i [] ∷ [])
  unfolding keeps
  keeps-yes e = rw (add-one, take-suc rs i [] l, keeps-append) (rw (e, keeps))

  pub keeps-no : keep (get_or rs i []) ≡ false → keeps keep (take (i + 1) rs) ≡ keeps keep (take i rs)
  unfolding keeps
  keeps-no e = rw (add-one, take-suc rs i [] l, keeps-append) (rw (e, keeps) (append-nil (keeps keep (take i rs))))

-- where the test keeps every one all are kept
pub keeps-all : (keep : List ℕ → Bool) (rs : List (List ℕ)) → ((k : ℕ) → k < length rs → keep (get_or rs k []) ≡ true) → keeps keep rs ≡ rs
unfolding keeps
keeps-all keep [] h = refl
keeps-all keep (r ∷ rs) h =
    let e : keep r ≡ true = h 0 (omega arith) in
    let f = keeps-all keep rs (λ k l. h (suc k) (omega arith)) in
    rw (e, f, keeps)

-- ---- the items from a later one on
pub chunks-drop : (size : ℕ) (xs : List ℕ) (n k : ℕ) → k ≤ n → drop k (chunks size xs n) ≡ chunks size (drop (k * size) xs) (n - k)
unfolding chunks
chunks-drop size xs n zero h = rw (zero-mul, sub-zero)
chunks-drop size xs zero (suc k) h = absurd (omega arith)
chunks-drop size xs (suc n) (suc k) h =
    let q : suc k * size ≡ size + k * size = omega (arith, suc-mul k size) in
    let s : suc n - suc k ≡ n - k = omega arith in
    chunks-drop size (drop size xs) n k (omega arith) ∙ rw (q, s, drop-drop)

pub items-drop : (size : ℕ) (xs : List ℕ) (at n k at' n' : ℕ) → k ≤ n → at' ≡ at + k * size → n' ≡ n - k → drop k (items size xs at n) ≡ items size xs at' n'
unfolding items
items-drop size xs at n k at' n' h e f = chunks-drop size (drop at xs) n k h ∙ rw (e, f, drop-drop)
