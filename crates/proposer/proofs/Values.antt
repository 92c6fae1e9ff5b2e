-- The laws of `specs/State.antt`: the tests one after the other, and what each step's writes come to. Assumes nothing.
use mathlib.Core.Path.{◌≡◌, refl, sym, ◌∙◌}
use mathlib.Core.Bool.{Bool, true, false, ◌&&◌}
use mathlib.Core.List.{List, [], ◌∷◌, ◌++◌}
use Prim.Native.Nat.{ℕ, ◌+◌, ◌-◌, ◌*◌, ◌/◌, ◌%◌, ◌≤◌, ◌<◌}
use native.Mathlib.Nat.{div-add-mod'}
use native.Mathlib.Omega.{arith}
use lib.Dec.{eqb, ltb, leb}
use lib.ListN.{length, take, drop}
use borrow.Author.Tests.{eq-eqb, ne_eqb, eqb-true, le-ltb, lt-ltb, leb-true, le-leb, lt-leb}
use Rattle.std.specs.Array.{IsWholeChunk}
use Rattle.wire.specs.Bytes.{part, splice, bytes}
use Rattle.wire.specs.Items.{items, flat}
use Rattle.wire.proofs.Laws.{part-all, length-bytes, true-not-false}
use Rattle.wire.proofs.Lists.{length-items}
use Rattle.proposer.specs.State.{zeros, round_in, parent_count, waiting_count, parents_in, waiting_in, payload_size, valid_state, due_header, next_round, advanced, added, digests_of}
use Rattle.proposer.proofs.Splices.{splice-join}
use Rattle.proposer.proofs.Order.{flat_items}

-- ---- a valid state
pub and_left : (a b : Bool) → (a && b) ≡ true → a ≡ true
and_left true b e = refl
and_left false b e = e

pub and_right : (a b : Bool) → (a && b) ≡ true → b ≡ true
and_right true b e = e
and_right false b e = absurd (true-not-false (sym e))

pub and-false : (a b : Bool) → a ≡ false → (a && b) ≡ false
and-false a b e = rw e

pub from-no : (a : Bool) → (a ≡ true → false ≡ true) → a ≡ false
from-no true h = sym (h refl)
from-no false h = refl

module _ (s : List ℕ) where
  pub valid-size : (length s ≡ 3366 → ⊥) → false ≡ valid_state s
  unfolding valid_state
  valid-size h = sym (rw (ne_eqb _ _ h))

  -- of the bytes as an array
  module _ (a : List ℕ) (x : IsWholeChunk s a 3366) (r : ℕ) (er : r ≡ round_in a) where
    pub valid-round : r < 1 → false ≡ valid_state s
    unfolding valid_state
    valid-round h = let k : round_in s < 1 = rw (← x.same, ← er) h in sym (rw (eq-eqb _ _ x.long, lt-leb _ _ k))

    module _ (hr : 1 ≤ r) (n : ℕ) (en : n ≡ parent_count a) where
      round-high : 1 ≤ round_in s
      round-high = rw (← x.same, ← er) hr

      pub valid-parents : 32 < n → false ≡ valid_state s
      unfolding valid_state
      valid-parents h =
          let m : 32 < parent_count s = rw (← x.same, ← en) h in
          sym (rw (eq-eqb _ _ x.long, le-leb _ _ round-high, lt-leb _ _ m))

      pub valid-last : n ≤ 32 → (w : ℕ) → w ≡ waiting_count a → leb w 64 ≡ valid_state s
      unfolding valid_state
      valid-last h w ew =
          let m : parent_count s ≤ 32 = rw (← x.same, ← en) h in
          sym (rw (eq-eqb _ _ x.long, le-leb _ _ round-high, le-leb _ _ m, ew, x.same))

pub record IsState (s : List ℕ) : Type 0 where
  pub size : length s ≡ 3366
  pub round : 1 ≤ round_in s
  pub parents : parent_count s ≤ 32
  pub waiting : waiting_count s ≤ 64

pub is_state : (s : List ℕ) → valid_state s ≡ true → IsState s
unfolding valid_state
is_state s h =
    let h3 = and_left (eqb (length s) 3366 && leb 1 (round_in s) && leb (parent_count s) 32) (leb (waiting_count s) 64) h in
    let h2 = and_left (eqb (length s) 3366 && leb 1 (round_in s)) (leb (parent_count s) 32) h3 in
    record {
      size = eqb-true _ _ (and_left (eqb (length s) 3366) (leb 1 (round_in s)) h2);
      round = leb-true _ _ (and_right (eqb (length s) 3366) (leb 1 (round_in s)) h2);
      parents = leb-true _ _ (and_right (eqb (length s) 3366 && leb 1 (round_in s)) (leb (parent_count s) 32) h3);
      waiting = leb-true _ _ (and_right (eqb (length s) 3366 && leb 1 (round_in s) && leb (parent_count s) 32) (leb (waiting_count s) 64) h);
    }

module _ (s : List ℕ) (h : valid_state s ≡ true) where
  pub state-size : length s ≡ 3366
  state-size = (is_state s h).size

-- ---- a list that is read
pub part-read : (s : List ℕ) (at size n k : ℕ) → n ≡ k → take (at + n * size - at) (drop at s) ≡ part s at (k * size)
unfolding part
part-read s at size n k e =
    let z : at + n * size - at ≡ n * size = omega arith in
    rw (z, e)

-- ---- whether a header is due
module _ (size timer : ℕ) (s : List ℕ) (n : ℕ) (en : n ≡ parent_count s) where
  pub due-no-parents : n ≡ 0 → false ≡ due_header size timer s
  unfolding due_header parents_in
  due-no-parents e =
      let l : length (items 32 s 38 (parent_count s)) ≤ 0 = omega (arith, length-items 32 s 38 (parent_count s)) in
      sym (rw (le-ltb 0 (length (items 32 s 38 (parent_count s))) l))

  module _ (p : n ≡ 0 → ⊥) where
    some-parents : ltb 0 (length (parents_in s)) ≡ true
    unfolding parents_in
    some-parents = lt-ltb 0 (length (items 32 s 38 (parent_count s))) (omega (arith, length-items 32 s 38 (parent_count s)))

    pub due-timer : timer ≡ 1 → true ≡ due_header size timer s
    unfolding due_header
    due-timer e = sym (rw (some-parents, eq-eqb timer 1 e))

    pub due-size : (w : ℕ) → (timer ≡ 1 → ⊥) → w ≡ waiting_count s → leb size (32 * w) ≡ due_header size timer s
    unfolding due_header payload_size waiting_in
    due-size w e ew =
        let l : length (items 36 s 1062 (waiting_count s)) ≡ w = length-items 36 s 1062 (waiting_count s) ∙ sym ew in
        sym (rw (some-parents, ne_eqb timer 1 e, l))

-- ---- `advance`, `add`: the writes in a row are the step
pub flat-digests : (bs : List ℕ) → length bs % 32 ≡ 0 → flat (digests_of bs) ≡ bs
unfolding digests_of
flat-digests bs h =
    let e : length bs ≡ length bs / 32 * 32 = omega (arith, div-add-mod' (length bs) 32) in
    flat_items 32 bs 0 (length bs / 32) ∙ part-all bs (length bs / 32 * 32) e

pub length-digests : (bs : List ℕ) → length (digests_of bs) ≡ length bs / 32
unfolding digests_of
length-digests bs = length-items 32 bs 0 (length bs / 32)

pub next-round-is : (s : List ℕ) (p n : ℕ) (a b c : List ℕ) → a ≡ splice s 32 (bytes 4 (p + 1)) → b ≡ splice a 36 (n ∷ []) → c ≡ splice b 38 (zeros 1024) → c ≡ next_round s p n
unfolding next_round
next-round-is s p n a b c ea eb ec = ec ∙ rw (eb, ea)

pub advance-is : (s : List ℕ) (p : ℕ) (bs a b : List ℕ) → length bs % 32 ≡ 0 → a ≡ next_round s p (length bs / 32) → b ≡ splice a 38 bs → b ≡ advanced s p (digests_of bs)
unfolding advanced
advance-is s p bs a b h ea eb = eb ∙ rw (ea, length-digests, flat-digests bs h)

pub add_is : (s digest : List ℕ) (w n : ℕ) (a b c : List ℕ) → length s ≡ 3366 → length digest ≡ 32 → waiting_count s < 64 → n ≡ waiting_count s → a ≡ splice s (1062 + n * 36) digest → b ≡ splice a (1062 + n * 36 + 32) (bytes 4 w) → c ≡ splice b 37 ((n + 1) ∷ []) → c ≡ added s digest w
unfolding added
add_is s digest w n a b c l ld h en ea eb ec =
    let j : splice a (1062 + n * 36 + 32) (bytes 4 w) ≡ splice s (1062 + n * 36) (digest ++ bytes 4 w) =
    rw ea (splice-join s (1062 + n * 36) digest (bytes 4 w) (1062 + n * 36 + 32) (omega arith) (omega (arith, length-bytes 4 w))) in
    ec ∙ rw (eb, j, en)
