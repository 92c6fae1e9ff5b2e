-- WHAT EACH STEP LEAVES, as values: own key, round, parents and waiting digests of the state after it. Assumes nothing.
use mathlib.Core.Path.{◌≡◌, sym, ap, ◌∙◌}
use mathlib.Core.Bool.{true}
use mathlib.Core.List.{List, [], ◌∷◌, ◌++◌}
use Prim.Native.Nat.{ℕ, ◌+◌, ◌*◌, ◌/◌, ◌≤◌, ◌<◌}
use native.Mathlib.Nat.{div-mul-le_self}
use native.Mathlib.Omega.{arith}
use lib.ListN.{length, get_or, drop, length-append, get_or-replicate}
use borrow.Author.Tests.{eq-eqb, le-leb}
use Rattle.wire.specs.Bytes.{part, splice, word, bytes}
use Rattle.wire.specs.Items.{chunks, items, flat}
use Rattle.wire.proofs.Laws.{get_d_part, length-bytes, word_bytes, length-splice, part-splice, part-splice-before, part-splice-after}
use Rattle.wire.proofs.Lists.{Sized, none, one, sized-append, length-items, items-sized, length-flat, flat_append, flat-one}
use Rattle.proposer.specs.State.{zeros, own_in, round_in, parent_count, waiting_count, parents_in, waiting_in, valid_state, next_round, advanced, added, emptied, digests_of}
use Rattle.proposer.proofs.Splices.{get-before, get_after, get_at, splice-left}
use Rattle.proposer.proofs.Order.{flat_items, chunks-take, items-laid}
use Rattle.proposer.proofs.Values.{IsState, is_state}
use Rattle.proposer.proofs.Making.{length-zeros}

-- a state by its four facts
pub state-of : (s : List ℕ) → IsState s → valid_state s ≡ true
unfolding valid_state
state-of s i = rw (eq-eqb _ _ i.size, le-leb _ _ i.round, le-leb _ _ i.parents, le-leb _ _ i.waiting)

-- ---- items are the same where their bytes are
pub items-same : (size at n : ℕ) (xs ys : List ℕ) → part xs at (n * size) ≡ part ys at (n * size) → items size xs at n ≡ items size ys at n
unfolding items part
items-same size at n xs ys e = sym (chunks-take size (drop at xs) n) ∙ ap (λ (z : List ℕ). chunks size z n) e ∙ chunks-take size (drop at ys) n

-- ---- `advanced`
module _ (s : List ℕ) (p : ℕ) (ps : List (List ℕ)) (l : length s ≡ 3366) (z : Sized 32 ps) (m : length ps ≤ 32) where
  one1 : List ℕ
  one1 = splice s 32 (bytes 4 (p + 1))

  two1 : List ℕ
  two1 = splice one1 36 (length ps ∷ [])

  three1 : List ℕ
  three1 = splice two1 38 (zeros 1024)

  long : length (flat ps) ≤ 1024
  long = omega (arith, length-flat 32 ps z)

  length1 : length one1 ≡ 3366
  unfolding one1
  length1 = length-splice s 32 (bytes 4 (p + 1)) (omega (arith, length-bytes 4 (p + 1))) ∙ l

  length2 : length two1 ≡ 3366
  unfolding two1
  length2 = length-splice one1 36 (length ps ∷ []) (omega (arith, length1)) ∙ length1

  length3 : length three1 ≡ 3366
  unfolding three1
  length3 = length-splice two1 38 (zeros 1024) (omega (arith, length2, length-zeros 1024)) ∙ length2

  pub length-advanced : length (advanced s p ps) ≡ 3366
  unfolding advanced next_round one1 two1 three1
  length-advanced = length-splice three1 38 (flat ps) (omega (arith, length3, long)) ∙ length3

  -- bytes before 36, and from 1062 on
  low : (i n : ℕ) → i + n ≤ 36 → part (advanced s p ps) i n ≡ part one1 i n
  unfolding advanced next_round one1 two1 three1
  low i n h =
      part-splice-before three1 38 (flat ps) (omega (arith, length3, long)) i n (omega arith)
      ∙ part-splice-before two1 38 (zeros 1024) (omega (arith, length2, length-zeros 1024)) i n (omega arith)
      ∙ part-splice-before one1 36 (length ps ∷ []) (omega (arith, length1)) i n h

  pub own-advanced : own_in (advanced s p ps) ≡ own_in s
  unfolding own_in one1
  own-advanced = low 0 32 (omega arith) ∙ part-splice-before s 32 (bytes 4 (p + 1)) (omega (arith, length-bytes 4 (p + 1))) 0 32 (omega arith)

  pub round-advanced : p ≤ 4294967294 → round_in (advanced s p ps) ≡ p + 1
  unfolding round_in one1
  round-advanced h =
      ap word (low 32 4 (omega arith) ∙ part-splice s 32 (bytes 4 (p + 1)) (omega (arith, length-bytes 4 (p + 1))) 4 (sym (length-bytes 4 (p + 1))))
      ∙ word_bytes 4 (p + 1) (omega arith)

  pub count-advanced : parent_count (advanced s p ps) ≡ length ps
  unfolding parent_count advanced next_round one1 two1 three1
  count-advanced =
      get-before three1 38 (flat ps) 36 (omega (arith, length3, long)) (omega arith)
      ∙ get-before two1 38 (zeros 1024) 36 (omega (arith, length2, length-zeros 1024)) (omega arith)
      ∙ get_at one1 36 (length ps) (omega (arith, length1))

  pub waiting-count-advanced : waiting_count (advanced s p ps) ≡ waiting_count s
  unfolding waiting_count advanced next_round one1 two1 three1
  waiting-count-advanced =
      get-before three1 38 (flat ps) 37 (omega (arith, length3, long)) (omega arith)
      ∙ get-before two1 38 (zeros 1024) 37 (omega (arith, length2, length-zeros 1024)) (omega arith)
      ∙ get_after one1 36 (length ps ∷ []) 37 (omega (arith, length1)) (omega arith)
      ∙ get_after s 32 (bytes 4 (p + 1)) 37 (omega (arith, length-bytes 4 (p + 1))) (omega (arith, length-bytes 4 (p + 1)))

  laid-advanced : items 32 (advanced s p ps) 38 (length ps) ≡ ps
  unfolding advanced next_round one1 two1 three1
  laid-advanced = items-laid 32 ps three1 38 z (omega (arith, length3))

  pub parents-advanced : parents_in (advanced s p ps) ≡ ps
  unfolding parents_in
  parents-advanced = rw count-advanced laid-advanced

  pub waiting-advanced : waiting_count s ≤ 64 → waiting_in (advanced s p ps) ≡ waiting_in s
  unfolding waiting_in advanced next_round one1 two1 three1
  waiting-advanced h =
      let n : ℕ = waiting_count s in
      let b = length-bytes 4 (p + 1) in
      rw waiting-count-advanced
      (items-same 36 1062 n (advanced s p ps) s
      (part-splice-after three1 38 (flat ps) (omega (arith, length3, long)) 1062 (n * 36) (omega (arith, long))
      ∙ part-splice-after two1 38 (zeros 1024) (omega (arith, length2, length-zeros 1024)) 1062 (n * 36) (omega (arith, length-zeros 1024))
      ∙ part-splice-after one1 36 (length ps ∷ []) (omega (arith, length1)) 1062 (n * 36) (omega arith)
      ∙ part-splice-after s 32 (bytes 4 (p + 1)) (omega arith) 1062 (n * 36) (omega arith)))

  pub state-advanced : p ≤ 4294967294 → waiting_count s ≤ 64 → valid_state (advanced s p ps) ≡ true
  state-advanced h v =
      state-of (advanced s p ps)
      (record {
        size = length-advanced;
        round = omega (arith, round-advanced h);
        parents = omega (arith, count-advanced);
        waiting = omega (arith, waiting-count-advanced);
      })

-- ---- `added`
module _ (s digest : List ℕ) (w : ℕ) (l : length s ≡ 3366) (d : length digest ≡ 32) (h : waiting_count s < 64) where
  item1 : List ℕ
  item1 = digest ++ bytes 4 w

  place1 : List ℕ
  place1 = splice s (1062 + waiting_count s * 36) item1

  length-item : length item1 ≡ 36
  unfolding item1
  length-item = simp length-append (omega (arith, length-bytes 4 w))

  fits1 : 1062 + waiting_count s * 36 + length item1 ≤ length s
  fits1 = omega (arith, length-item)

  length-place : length place1 ≡ 3366
  unfolding place1
  length-place = length-splice s (1062 + waiting_count s * 36) item1 fits1 ∙ l

  pub length-added : length (added s digest w) ≡ 3366
  unfolding added item1 place1
  length-added = length-splice place1 37 ((waiting_count s + 1) ∷ []) (omega (arith, length-place)) ∙ length-place

  first-bytes : (i n : ℕ) → i + n ≤ 37 → part (added s digest w) i n ≡ part s i n
  unfolding added item1 place1
  first-bytes i n k =
      part-splice-before place1 37 ((waiting_count s + 1) ∷ []) (omega (arith, length-place)) i n k
      ∙ part-splice-before s (1062 + waiting_count s * 36) item1 fits1 i n (omega arith)

  pub own-added : own_in (added s digest w) ≡ own_in s
  unfolding own_in
  own-added = first-bytes 0 32 (omega arith)

  pub round-added : round_in (added s digest w) ≡ round_in s
  unfolding round_in
  round-added = ap word (first-bytes 32 4 (omega arith))

  pub parent-count-added : parent_count (added s digest w) ≡ parent_count s
  unfolding parent_count added item1 place1
  parent-count-added =
      get-before place1 37 ((waiting_count s + 1) ∷ []) 36 (omega (arith, length-place)) (omega arith)
      ∙ get-before s (1062 + waiting_count s * 36) item1 36 fits1 (omega arith)

  pub count-added : waiting_count (added s digest w) ≡ waiting_count s + 1
  unfolding waiting_count added item1 place1
  count-added = get_at place1 37 (waiting_count s + 1) (omega (arith, length-place))

  pub parents-added : parent_count s ≤ 32 → parents_in (added s digest w) ≡ parents_in s
  unfolding parents_in added item1 place1
  parents-added k =
      let n : ℕ = parent_count s in
      rw parent-count-added
      (items-same 32 38 n (added s digest w) s
      (part-splice-after place1 37 ((waiting_count s + 1) ∷ []) (omega (arith, length-place)) 38 (n * 32) (omega arith)
      ∙ part-splice-before s (1062 + waiting_count s * 36) item1 fits1 38 (n * 32) (omega arith)))

  pub waiting-added : waiting_in (added s digest w) ≡ waiting_in s ++ ((digest ++ bytes 4 w) ∷ [])
  unfolding waiting_in added item1 place1
  waiting-added =
      let n : ℕ = waiting_count s in
      let old : List (List ℕ) = items 36 s 1062 n in
      let rs : List (List ℕ) = old ++ (item1 ∷ []) in
      let lo = length-items 36 s 1062 n in
      let lr : length rs ≡ n + 1 = simp length-append (omega arith) in
      let zo : Sized 36 old = items-sized 36 s 1062 n (omega arith) in
      let z : Sized 36 rs = sized-append 36 old (item1 ∷ []) zo (one length-item none) in
      let f : flat rs ≡ part s 1062 (n * 36) ++ item1 = flat_append old (item1 ∷ []) ∙ rw (flat_items, flat-one) in
      let b : place1 ≡ splice s 1062 (flat rs) = splice-left s 1062 (n * 36) item1 (omega arith) ∙ rw f in
      rw count-added
      (items-same 36 1062 (n + 1) (added s digest w) place1 (part-splice-after place1 37 ((n + 1) ∷ []) (omega (arith, length-place)) 1062 ((n + 1) * 36) (omega arith))
      ∙ rw (b, ← lr) (items-laid 36 rs s 1062 z (omega arith)))

  pub state-added : valid_state s ≡ true → valid_state (added s digest w) ≡ true
  state-added v =
      let i = is_state s v in
      state-of (added s digest w)
      (record {
        size = length-added;
        round = omega (arith, round-added, i.round);
        parents = omega (arith, parent-count-added, i.parents);
        waiting = omega (arith, count-added);
      })

-- ---- `emptied`
module _ (s : List ℕ) (l : length s ≡ 3366) where
  fits-empty : 36 + length (zeros 3330) ≤ length s
  fits-empty = omega (arith, length-zeros 3330)

  pub length-emptied : length (emptied s) ≡ 3366
  unfolding emptied
  length-emptied = length-splice s 36 (zeros 3330) fits-empty ∙ l

  pub own-emptied : own_in (emptied s) ≡ own_in s
  unfolding own_in emptied
  own-emptied = part-splice-before s 36 (zeros 3330) fits-empty 0 32 (omega arith)

  pub round-emptied : round_in (emptied s) ≡ round_in s
  unfolding round_in emptied
  round-emptied = ap word (part-splice-before s 36 (zeros 3330) fits-empty 32 4 (omega arith))

  zero-at : (k : ℕ) → k < 3330 → get_or (emptied s) (36 + k) 0 ≡ 0
  unfolding emptied zeros
  zero-at k h =
      sym (get_d_part (emptied s) 36 3330 k h)
      ∙ ap (λ (z : List ℕ). get_or z k 0) (part-splice s 36 (zeros 3330) fits-empty 3330 (sym (length-zeros 3330)))
      ∙ get_or-replicate 3330 k 0 0 h

  pub parents-emptied : parents_in (emptied s) ≡ []
  unfolding parents_in parent_count items chunks
  parents-emptied = let e : get_or (emptied s) 36 0 ≡ 0 = zero-at 0 (omega arith) in rw e

  pub waiting-emptied : waiting_in (emptied s) ≡ []
  unfolding waiting_in waiting_count items chunks
  waiting-emptied = let e : get_or (emptied s) 37 0 ≡ 0 = zero-at 1 (omega arith) in rw e

-- digests handed in have 32 bytes each
pub digests-sized : (bs : List ℕ) → Sized 32 (digests_of bs)
unfolding digests_of
digests-sized bs = items-sized 32 bs 0 (length bs / 32) (omega (arith, div-mul-le_self (length bs) 32))
