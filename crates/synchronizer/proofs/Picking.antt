-- The laws of a loop that picks items of a list into a buffer, for any test and any size. Assumes nothing.
use mathlib.Core.Path.{◌≡◌, refl, sym, ap, ◌∙◌}
use mathlib.Core.Bool.{Bool, true, false, not}
use mathlib.Core.List.{List, [], ◌∷◌, ◌++◌, append_assoc}
use Prim.Native.Nat.{ℕ, ◌+◌, ◌-◌, ◌*◌, ◌≤◌, ◌<◌}
use native.Mathlib.Nat.{zero-add, mul-le-mul_left}
use native.Mathlib.Omega.{arith}
use lib.ListN.{length, get_or, take, drop, length-append, length-drop, take-append-drop}
use lib.Seq.{take_all, length-take-le, drop-drop}
use borrow.Author.Tests.{not-true, not-false}
use Rattle.wire.specs.Bytes.{splice}
use Rattle.wire.specs.Items.{items, item_in, flat, keeps}
use Rattle.wire.proofs.Laws.{length-splice}
use Rattle.wire.proofs.Lists.{sized-take, splice-seam, below-mul, length-flat, flat_append, flat-one, keeps-sized, keeps-yes, keeps-no, items-sized, item-is, item-length, length-items}
use Rattle.synchronizer.specs.Picked.{Picked, Put, put_count, put_buffer}

-- one item put, or not
module _ (size m : ℕ) (item : List ℕ) (wanted : Bool) (out : List ℕ) where
  pub put-not : not wanted ≡ true → Put size m item wanted out m out
  unfolding put_count put_buffer
  put-not h =
      let e = not-true wanted h in
      record { count = sym (rw (e, put_count)); buffer = sym (rw (e, put_buffer)) }

  pub put_one : (u : List ℕ) → not wanted ≡ false → u ≡ splice out (m * size) item → Put size m item wanted out (m + 1) u
  unfolding put_count put_buffer
  put_one u h q =
      let e = not-false wanted h in
      record { count = sym (rw (e, put_count)); buffer = q ∙ sym (rw (e, put_buffer)) }

-- bytes put behind those that stand at the front
splice-more : (xs a b : List ℕ) (at : ℕ) → length a ≡ at → at + length b ≤ length xs → splice (splice xs 0 a) at b ≡ splice xs 0 (a ++ b)
unfolding splice
splice-more xs a b at e h =
    let c : List ℕ = drop (length a) xs in
    let lc : length c ≡ length xs - length a = length-drop (length a) xs in
    let lt : length (take (length b) c) ≡ length b = length-take-le (length b) c (omega arith) in
    let s : a ++ c ≡ a ++ (take (length b) c ++ drop (length b) c) = ap (λ (z : List ℕ). a ++ z) (sym (take-append-drop (length b) c)) in
    let f : drop (length b) c ≡ drop (0 + length (a ++ b)) xs = rw (zero-add, length-append, drop-drop) in
    let g : splice (a ++ c) at b ≡ a ++ (b ++ drop (length b) c) =
    ap (λ (z : List ℕ). splice z at b) s ∙ splice-seam a (take (length b) c) b (drop (length b) c) at e (sym lt) in
    rw zero-add (g ∙ rw f (sym (append_assoc a b (drop (0 + length (a ++ b)) xs))))

-- the state of the loop: of the first i items those that the test wants stand at the front of the buffer, m of them
pub record Picking (size : ℕ) (test : List ℕ → Bool) (xs : List ℕ) (at n : ℕ) (out₀ out : List ℕ) (i m : ℕ) : Type 0 where
  pub high : i ≤ n
  pub low : m ≤ i
  pub fits : at + n * size ≤ length xs
  pub room : n * size ≤ length out₀
  pub same : length out ≡ length out₀
  pub count : m ≡ length (keeps test (take i (items size xs at n)))
  pub is : out ≡ splice out₀ 0 (flat (keeps test (take i (items size xs at n))))

pub picking-start : (size : ℕ) (test : List ℕ → Bool) (xs : List ℕ) (at n : ℕ) (out : List ℕ) → at + n * size ≤ length xs → n * size ≤ length out → Picking size test xs at n out out 0 0
unfolding keeps flat splice
picking-start size test xs at n out h r =
    record { high = omega arith; low = omega arith; fits = h; room = r; same = refl; count = refl; is = refl }

module _ (size : ℕ) (test : List ℕ → Bool) (xs : List ℕ) (at n : ℕ) (out₀ out : List ℕ) (i m : ℕ) (s : Picking size test xs at n out₀ out i m) where
  its : List (List ℕ)
  its = items size xs at n

  front : List ℕ
  front = flat (keeps test (take i (items size xs at n)))

  length_front : length front ≡ m * size
  unfolding front
  length_front =
      length-flat size (keeps test (take i (items size xs at n))) (keeps-sized size test (take i (items size xs at n)) (sized-take size (items size xs at n) i (items-sized size xs at n s.fits)))
      ∙ ap (λ (k : ℕ). k * size) (sym s.count)

  pub picking-done : n ≤ i → Picked (keeps test (items size xs at n)) out₀ m out
  picking-done l =
      let e : take i (items size xs at n) ≡ items size xs at n = take_all i (items size xs at n) (omega (arith, length-items size xs at n)) in
      record { count = s.count ∙ rw e; buffer = s.is ∙ rw e }

  module _ (l : i < n) where
    pub picking-item : (r : List ℕ) → r ≡ item_in size xs at i → length r ≡ size
    picking-item r e = ap length e ∙ item-length size xs at n s.fits i l

    pub picking-room : m * size + size ≤ length out
    picking-room = omega (arith, below-mul m n size (omega (arith, s.low)), s.room, s.same)

    module _ (r : List ℕ) (e : r ≡ item_in size xs at i) where
      row : r ≡ get_or (items size xs at n) i []
      row = e ∙ item-is size xs at n s.fits i l

      inside : i < length (items size xs at n)
      inside = omega (arith, length-items size xs at n)

      pick_yes : test r ≡ true → Picking size test xs at n out₀ (splice out (m * size) r) (i + 1) (m + 1)
      unfolding front
      pick_yes q =
          let k = keeps-yes test (items size xs at n) i inside (rw row at q) in
          let lr = picking-item r e in
          let pr = picking-room in
          let g : flat (keeps test (take (i + 1) (items size xs at n))) ≡ front ++ r =
          ap flat k ∙ flat_append (keeps test (take i (items size xs at n))) (get_or (items size xs at n) i [] ∷ []) ∙ rw (flat-one, ← row) in
          record {
            high = omega arith;
            low = omega (arith, s.low);
            fits = s.fits;
            room = s.room;
            same = length-splice out (m * size) r (omega arith) ∙ s.same;
            count = sym (ap length k ∙ length-append (keeps test (take i (items size xs at n))) (get_or (items size xs at n) i [] ∷ []) ∙ ap (λ (j : ℕ). j + 1) (sym s.count));
            is = ap (λ (z : List ℕ). splice z (m * size) r) s.is ∙ splice-more out₀ front r (m * size) length_front (omega (arith, s.same)) ∙ ap (λ (z : List ℕ). splice out₀ 0 z) (sym g);
          }

      pick_no : test r ≡ false → Picking size test xs at n out₀ out (i + 1) m
      pick_no q =
          let k = keeps-no test (items size xs at n) i inside (rw row at q) in
          record {
            high = omega arith;
            low = omega (arith, s.low);
            fits = s.fits;
            room = s.room;
            same = s.same;
            count = s.count ∙ sym (ap length k);
            is = s.is ∙ rw k;
          }

      pub picking-next : (b : Bool) (k : ℕ) (u : List ℕ) → b ≡ test r → Put size m r b out k u → Picking size test xs at n out₀ u (i + 1) k
      unfolding put_count put_buffer
      picking-next b k u q p = go b q p where
        go : (b : Bool) → b ≡ test r → Put size m r b out k u → Picking size test xs at n out₀ u (i + 1) k
        go true q p = rw (p.count, p.buffer) (pick_yes (sym q))
        go false q p = rw (p.count, p.buffer) (pick_no (sym q))

pub put-few : (size m : ℕ) (out : List ℕ) → 1 ≤ size → m * size + size ≤ length out → m < length out
put-few size m out h l = let p : m * 1 ≤ m * size = mul-le-mul_left m h in omega arith
