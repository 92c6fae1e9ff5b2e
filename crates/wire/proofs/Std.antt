-- What std says of slices and numbers, in the words of `specs/Bytes.antt`. Assumes nothing.
use mathlib.Core.Path.{◌≡◌, refl, ◌∙◌}
use mathlib.Core.Bool.{Bool, true, false, ◌&&◌}
use mathlib.Core.List.{List, [], ◌∷◌, ◌++◌, append_assoc}
use Prim.Native.Nat.{ℕ, ◌+◌, ◌-◌, ◌/◌, ◌≤◌}
use native.Mathlib.Omega.{arith}
use lib.Dec.{eqb}
use lib.ListN.{length, take, drop, replicate, length-replicate}
use lib.Pointwise.{pointwise}
use Rattle.std.specs.Int.{w32, w64, to_le_bytes, from_le_bytes}
use Rattle.std.specs.Ordering.{nat_cmp, is_lt, is_some_and}
use Rattle.std.specs.Cmp.Lexicographic.{slice_partial_cmp}
use Rattle.std.specs.Prelude.{Result, Some, Ok, MatchResult, ◌≢◌}
use Rattle.std.specs.Array.{IsWholeChunk}
use Rattle.std.specs.List.{copy_within}
use Rattle.std.proofs.lemmas.Cmp.{same_from_slice_cmp_tested}
use Rattle.std.proofs.lemmas.Bool.Decides.{nat_tests}
use Rattle.wire.specs.Bytes.{pick, part, alike, less, splice, word, bytes}
use Rattle.wire.proofs.Laws.{part4, part-add, put-mid, length_part, length-bytes}

-- a part as std cuts it out
cut-part : (xs : List ℕ) (at n : ℕ) → take (at + n - at) (drop at xs) ≡ part xs at n
unfolding part
cut-part xs at n = let e : at + n - at ≡ n = omega arith in rw e

-- ---- `==` and `<`
alike-pointwise : (xs ys : List ℕ) → pointwise eqb xs ys ≡ alike xs ys
unfolding alike
alike-pointwise [] [] = refl
alike-pointwise [] (y ∷ ys) = refl
alike-pointwise (x ∷ xs) [] = refl
alike-pointwise (x ∷ xs) (y ∷ ys) = rw (alike-pointwise xs ys) (go (eqb x y)) where
  go : (b : Bool) → (b && alike xs ys) ≡ pick b (alike xs ys) false
  go true = refl
  go false = refl

less-slices : (xs ys : List ℕ) (b : Bool) → b ≡ is_some_and is_lt (slice_partial_cmp (λ x y. Some (nat_cmp x y)) xs ys) → b ≡ less xs ys
unfolding less
less-slices = same_from_slice_cmp_tested nat_cmp is_lt less refl (λ _ _. refl) (λ _ _. refl) (λ x y xs ys o h. grind (arith, nat_tests))

module _ (xs ys : List ℕ) (i j n : ℕ) (b : Bool) where
  pub alike-cut : b ≡ pointwise eqb (take (i + n - i) (drop i xs)) (take (j + n - j) (drop j ys)) → b ≡ alike (part xs i n) (part ys j n)
  alike-cut e = e ∙ rw (cut-part xs i n, cut-part ys j n) (alike-pointwise (part xs i n) (part ys j n))

  pub less-cut : b ≡ is_some_and is_lt (slice_partial_cmp (λ x y. Some (nat_cmp x y)) (take (i + n - i) (drop i xs)) (take (j + n - j) (drop j ys))) → b ≡ less (part xs i n) (part ys j n)
  less-cut e = less-slices (part xs i n) (part ys j n) b (rw (cut-part xs i n, cut-part ys j n) at e)

-- ---- `copy_from_slice` and `fill` of a part, and `copy_within`
module _ (xs : List ℕ) (at n : ℕ) where
  pub put-part : (ys zs : List ℕ) → ys ≡ zs → length zs ≡ n → take at xs ++ (ys ++ drop (at + n - at) (drop at xs)) ≡ splice xs at zs
  put-part ys zs e l =
      let m : at + n - at ≡ n = omega arith in
      rw (e, m) (put-mid xs zs at n l)

  pub fill-part : (ys : List ℕ) → (((y : ℕ) → y ≡ 0 → y ≡ 0) → ys ≡ replicate (length (take (at + n - at) (drop at xs))) 0) → at + n ≤ length xs → take at xs ++ (ys ++ drop (at + n - at) (drop at xs)) ≡ splice xs at (replicate n 0)
  fill-part ys f h = put-part ys (replicate n 0) (rw (cut-part xs at n, length_part xs at n h) at (f (λ y e. e))) (length-replicate n 0)

  pub moved-part : (ys : List ℕ) (to : ℕ) → ys ≡ copy_within xs at (at + n) to → at + n ≤ length xs → ys ≡ splice xs to (part xs at n)
  unfolding splice part
  moved-part ys to e h =
      let m : at + n - at ≡ n = omega arith in
      e ∙ rw (m, length_part xs at n h, append_assoc)

-- ---- `to_le_bytes` and `from_le_bytes`
le4 : (x : ℕ) → to_le_bytes w32 x ≡ bytes 4 x
unfolding bytes
le4 x =
    let e2 : x / 65536 ≡ x / 256 / 256 = omega arith in
    let e3 : x / 16777216 ≡ x / 256 / 256 / 256 = omega arith in
    rw (e2, e3)

le8 : (x : ℕ) → to_le_bytes w64 x ≡ bytes 8 x
unfolding bytes
le8 x =
    let e2 : x / 65536 ≡ x / 256 / 256 = omega arith in
    let e3 : x / 16777216 ≡ x / 256 / 256 / 256 = omega arith in
    let e4 : x / 4294967296 ≡ x / 256 / 256 / 256 / 256 = omega arith in
    let e5 : x / 1099511627776 ≡ x / 256 / 256 / 256 / 256 / 256 = omega arith in
    let e6 : x / 281474976710656 ≡ x / 256 / 256 / 256 / 256 / 256 / 256 = omega arith in
    let e7 : x / 72057594037927936 ≡ x / 256 / 256 / 256 / 256 / 256 / 256 / 256 = omega arith in
    rw (e2, e3, e4, e5, e6, e7)

module _ (xs ys zs : List ℕ) (at x : ℕ) (e : ys ≡ zs) where
  pub put4 : zs ≡ to_le_bytes w32 x → take at xs ++ (ys ++ drop (at + 4 - at) (drop at xs)) ≡ splice xs at (bytes 4 x)
  put4 f = put-part xs at 4 ys (bytes 4 x) (e ∙ f ∙ le4 x) (length-bytes 4 x)

  pub put8 : zs ≡ to_le_bytes w64 x → take at xs ++ (ys ++ drop (at + 8 - at) (drop at xs)) ≡ splice xs at (bytes 8 x)
  put8 f = put-part xs at 8 ys (bytes 8 x) (e ∙ f ∙ le8 x) (length-bytes 8 x)

module _ (xs ys : List ℕ) (at m : ℕ) {E : Type 0} (r : Result (List ℕ) E) (f : r ≡ Ok ys) where
  read-part : (n : ℕ) → MatchResult r (λ y. IsWholeChunk (take (at + n - at) (drop at xs)) y n) (λ _. length (take (at + n - at) (drop at xs)) ≢ n) → ys ≡ part xs at n
  read-part n e = let w = rw f at e in w.same ∙ cut-part xs at n

  pub read4 : MatchResult r (λ y. IsWholeChunk (take (at + 4 - at) (drop at xs)) y 4) (λ _. length (take (at + 4 - at) (drop at xs)) ≢ 4) → m ≡ from_le_bytes w32 ys → at + 4 ≤ length xs → m ≡ word (part xs at 4)
  unfolding word
  read4 e g h = g ∙ rw (read-part 4 e, part4 xs at h) (omega arith)

  pub read8 : MatchResult r (λ y. IsWholeChunk (take (at + 8 - at) (drop at xs)) y 8) (λ _. length (take (at + 8 - at) (drop at xs)) ≢ 8) → m ≡ from_le_bytes w64 ys → at + 8 ≤ length xs → m ≡ word (part xs at 8)
  unfolding word
  read8 e g h = g ∙ rw (read-part 8 e, part-add xs at 4 4, part4 xs at (omega arith), part4 xs (at + 4) (omega arith)) (omega arith)
