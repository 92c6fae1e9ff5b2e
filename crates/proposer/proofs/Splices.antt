-- Splices: two that touch, one over another, and one widened by what stands beside it. Assumes nothing.
use mathlib.Core.Path.{◌≡◌, refl, sym, ap, ◌∙◌}
use mathlib.Core.List.{List, [], ◌∷◌, ◌++◌, append_assoc}
use Prim.Native.Nat.{ℕ, ◌+◌, ◌-◌, ◌≤◌, ◌<◌}
use native.Mathlib.Nat.{add-zero}
use native.Mathlib.Omega.{arith}
use lib.ListN.{length, get_or, set, take, drop, length-append, length-set, take-append-drop}
use lib.Seq.{take_at, drop-append-add, length-take-le, drop-drop, take-add}
use Rattle.std.specs.List.{copy_within}
use Rattle.wire.specs.Bytes.{part, splice}
use Rattle.wire.proofs.Laws.{part-cons, part_none, length_part, length-splice, part_at, part-splice, part-splice-before, part-splice-after, part-first, splice-one}

pub splice-none : (xs : List ℕ) (a : ℕ) → a ≤ length xs → splice xs a [] ≡ xs
unfolding splice
splice-none xs a h = rw add-zero (take-append-drop a xs)

module _ (xs : List ℕ) (a : ℕ) where
  -- what stands before, or behind, put in again
  pub splice-left : (k : ℕ) (ys : List ℕ) → a + k ≤ length xs → splice xs (a + k) ys ≡ splice xs a (part xs a k ++ ys)
  unfolding splice part
  splice-left k ys h =
      let l : length (take k (drop a xs)) ≡ k = length_part xs a k h in
      let n : a + length (take k (drop a xs) ++ ys) ≡ a + k + length ys = simp length-append (omega arith) in
      rw (n, take-add) (simp append_assoc)

  pub splice-right : (ys : List ℕ) (b m : ℕ) → b ≡ a + length ys → b + m ≤ length xs → splice xs a ys ≡ splice xs a (ys ++ part xs b m)
  unfolding splice part
  splice-right ys b m e h =
      let l : length (take m (drop b xs)) ≡ m = length_part xs b m h in
      let n : a + length (ys ++ take m (drop b xs)) ≡ b + m = simp length-append (omega arith) in
      let d : drop b xs ≡ take m (drop b xs) ++ drop (b + m) xs = sym (rw (← drop-drop m b xs) (take-append-drop m (drop b xs))) in
      rw (n, ← e, append_assoc, ← d)

  -- the later one over the earlier
  pub splice-over : (ys zs : List ℕ) → length ys ≤ length zs → a + length zs ≤ length xs → splice (splice xs a ys) a zs ≡ splice xs a zs
  unfolding splice
  splice-over ys zs h l =
      let t : length (take a xs) ≡ a = length-take-le a xs (omega arith) in
      let n : a + length zs ≡ length (take a xs ++ ys) + (length zs - length ys) = simp length-append (omega arith) in
      let m : a + length ys + (length zs - length ys) ≡ a + length zs = omega arith in
      let d : drop (a + length zs) (take a xs ++ (ys ++ drop (a + length ys) xs)) ≡ drop (a + length zs) xs =
      rw (n, ← append_assoc, drop-append-add) (drop-drop (length zs - length ys) (a + length ys) xs ∙ rw m (ap (λ (k : ℕ). drop k xs) n)) in
      rw (take_at (take a xs) (ys ++ drop (a + length ys) xs) a t, d)

-- two that touch, the first put first or last
module _ (xs : List ℕ) (a : ℕ) (ys zs : List ℕ) (b : ℕ) (e : b ≡ a + length ys) (h : b + length zs ≤ length xs) where
  pub splice-join : splice (splice xs a ys) b zs ≡ splice xs a (ys ++ zs)
  splice-join =
      let l : a + length ys ≤ length xs = omega arith in
      let n = length-splice xs a ys l in
      let q = length-append ys zs in
      ap (λ (k : ℕ). splice (splice xs a ys) k zs) e
      ∙ splice-left (splice xs a ys) a (length ys) zs (omega arith)
      ∙ ap (λ (z : List ℕ). splice (splice xs a ys) a (z ++ zs)) (part-splice xs a ys l (length ys) refl)
      ∙ splice-over xs a ys (ys ++ zs) (omega arith) (omega arith)

  pub splice-join-back : splice (splice xs b zs) a ys ≡ splice xs a (ys ++ zs)
  splice-join-back =
      let n = length-splice xs b zs h in
      let q = length-append ys zs in
      let l : a + length ys ≤ length xs = omega arith in
      let m = length-append (part xs a (length ys)) zs in
      let p = length_part xs a (length ys) l in
      splice-right (splice xs b zs) a ys b (length zs) e (omega arith)
      ∙ ap (λ (z : List ℕ). splice (splice xs b zs) a (ys ++ z)) (part-splice xs b zs h (length zs) refl)
      ∙ ap (λ (k : ℕ). splice (splice xs k zs) a (ys ++ zs)) e
      ∙ ap (λ (z : List ℕ). splice z a (ys ++ zs)) (splice-left xs a (length ys) zs l)
      ∙ splice-over xs a (part xs a (length ys) ++ zs) (ys ++ zs) (omega arith) (omega arith)

pub get-before : (xs : List ℕ) (a : ℕ) (ys : List ℕ) (k : ℕ) → a + length ys ≤ length xs → k < a → get_or (splice xs a ys) k 0 ≡ get_or xs k 0
get-before xs a ys k h l = simp add-zero at (part_at (splice xs a ys) xs k 1 0 (part-splice-before xs a ys h k 1 (omega arith)) (omega arith))

pub get_after : (xs : List ℕ) (a : ℕ) (ys : List ℕ) (k : ℕ) → a + length ys ≤ length xs → a + length ys ≤ k → get_or (splice xs a ys) k 0 ≡ get_or xs k 0
get_after xs a ys k h l = simp add-zero at (part_at (splice xs a ys) xs k 1 0 (part-splice-after xs a ys h k 1 l) (omega arith))

pub get_at : (xs : List ℕ) (a v : ℕ) → a < length xs → get_or (splice xs a (v ∷ [])) a 0 ≡ v
get_at xs a v h = part-first (splice xs a (v ∷ [])) a v [] (part-splice xs a (v ∷ []) (omega arith) 1 refl)

-- ---- the loop that copies to a later place, from the end: the last bytes are copied, those below to + k are as they were
pub record Lifted (s₀ : List ℕ) (from to n : ℕ) (s : List ℕ) (k : ℕ) : Type 0 where
  pub high : k ≤ n
  pub same : length s ≡ length s₀
  pub is : s ≡ splice s₀ (to + k) (part s₀ (from + k) (n - k))

pub lifted-start : (s₀ : List ℕ) (from to n : ℕ) → from ≤ to → to + n ≤ length s₀ → Lifted s₀ from to n s₀ n
lifted-start s₀ from to n h l =
    let e : n - n ≡ 0 = omega arith in
    record { high = omega arith; same = refl; is = sym (rw (e, part_none) (splice-none s₀ (to + n) l)) }

module _ (s₀ : List ℕ) (from to n : ℕ) (s : List ℕ) (k : ℕ) (i : Lifted s₀ from to n s k) (h : from ≤ to) (f : to + n ≤ length s₀) where
  pub lifted-done : k ≤ 0 → s ≡ splice s₀ to (part s₀ from n)
  lifted-done l =
      let e : k ≡ 0 = omega arith in
      let m : n - 0 ≡ n = omega arith in
      simp (e, add-zero, m) at i.is

  pub lifted-next : 0 < k → Lifted s₀ from to n (set s (to + (k - 1)) (get_or s (from + (k - 1)) 0)) (k - 1)
  lifted-next l =
      let j : ℕ = k - 1 in
      let v : ℕ = get_or s (from + j) 0 in
      let r : List ℕ = part s₀ (from + k) (n - k) in
      let lr : length r ≡ n - k = length_part s₀ (from + k) (n - k) (omega arith) in
      let g : v ≡ get_or s₀ (from + j) 0 = ap (λ (z : List ℕ). get_or z (from + j) 0) i.is ∙ get-before s₀ (to + k) r (from + j) (omega arith) (omega arith) in
      let c : part s₀ (from + j) (n - j) ≡ get_or s₀ (from + j) 0 ∷ r = part-cons s₀ (from + j) (n - j) (from + k) (n - k) (omega arith) (omega arith) (omega arith) in
      let e1 : set s (to + j) v ≡ splice s (to + j) (v ∷ []) = splice-one s (to + j) v (omega (arith, i.same)) in
      record {
        high = omega arith;
        same = simp length-set i.same;
        is =
            e1
            ∙ ap (λ (z : List ℕ). splice z (to + j) (v ∷ [])) i.is
            ∙ splice-join-back s₀ (to + j) (v ∷ []) r (to + k) (omega arith) (omega arith)
            ∙ ap (λ (z : List ℕ). splice s₀ (to + j) z) (ap (λ (y : ℕ). y ∷ r) g ∙ sym c);
      }

-- bytes copied to another place of the same slice
pub splice-moved : (xs : List ℕ) (from to n : ℕ) → from + n ≤ length xs → copy_within xs from (from + n) to ≡ splice xs to (part xs from n)
unfolding splice part
splice-moved xs from to n h =
    let m : from + n - from ≡ n = omega arith in
    let l : length (take n (drop from xs)) ≡ n = length_part xs from n h in
    rw (m, l, append_assoc)
