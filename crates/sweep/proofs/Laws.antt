-- The laws of a loop that keeps some rows of a table, for any test. Assumes nothing.
use mathlib.Core.Path.{◌≡◌, refl, sym, ap, ◌∙◌}
use mathlib.Core.Bool.{Bool, true, false, not}
use mathlib.Core.List.{List, [], ◌∷◌, ◌++◌, append_assoc}
use Prim.Native.Nat.{ℕ, ◌+◌, ◌-◌, ◌*◌, ◌≤◌, ◌<◌, ◌^◌}
use native.Mathlib.Numerals.{add-one}
use native.Mathlib.Nat.{zero-mul, mul-le-mul_left, mul-le-mul_right}
use native.Mathlib.Omega.{arith}
use lib.ListN.{length, get_or, take, drop, replicate, length-drop, length-append, take-append-drop, length-replicate}
use lib.Seq.{take_all, drop-length, length-take-le, drop-cons}
use borrow.Author.Tests.{not-true, not-false}
use Rattle.wire.specs.Bytes.{part, splice, bytes}
use Rattle.wire.specs.Items.{item_in, flat, keeps}
use Rattle.wire.proofs.Laws.{length-bytes, length-splice, splice-own}
use Rattle.wire.proofs.Lists.{next-mul, gap-mul, below-mul, splice-seam, part-seam, sized-at, sized-take, keeps-sized, keeps_fewer, keeps-yes, keeps-no, length-flat, flat_append, flat-one}
use Rattle.table.specs.Rows.{count_of, places, shaped, rows_of, past_of, packed}
use Rattle.table.proofs.Laws.{is-table, Holds, holds-packed, length-packed, After, after, length-past}
use Rattle.sweep.specs.Kept.{went, kept, moved, counted, finished}

-- ---- bytes: a row moved to the front of a gap
shift : (h f gap r tail : List ℕ) (at size : ℕ) → length h + length f ≡ at → length r ≡ size → splice (h ++ (f ++ (gap ++ (r ++ tail)))) at r ≡ h ++ ((f ++ r) ++ (drop size (gap ++ r) ++ tail))
shift h f gap r tail at size e l =
    let b : List ℕ = take size (gap ++ r) in
    let c : List ℕ = drop size (gap ++ r) in
    let lb : length b ≡ size = length-take-le size (gap ++ r) (omega (arith, length-append gap r)) in
    ap (λ (z : List ℕ). splice (h ++ (f ++ z)) at r) (sym (append_assoc gap r tail) ∙ ap (λ (z : List ℕ). z ++ tail) (sym (take-append-drop size (gap ++ r))) ∙ append_assoc b c tail)
    ∙ ap (λ (z : List ℕ). splice z at r) (sym (append_assoc h f (b ++ (c ++ tail))))
    ∙ splice-seam (h ++ f) b r (c ++ tail) at (length-append h f ∙ e) (l ∙ sym lb)
    ∙ simp append_assoc

reach : (h f gap r tail : List ℕ) (at size : ℕ) → length h + (length f + length gap) ≡ at → length r ≡ size → part (h ++ (f ++ (gap ++ (r ++ tail)))) at size ≡ r
reach h f gap r tail at size e l =
    let q : h ++ (f ++ (gap ++ (r ++ tail))) ≡ (h ++ (f ++ gap)) ++ (r ++ tail) = simp append_assoc in
    rw q (part-seam (h ++ (f ++ gap)) r tail at size (simp length-append e) l)

-- ---- the state of the loop: of the first i rows the kept ones stand together, m of them; then a gap; then the rows from i on, and the rest
pub record Sweep (size : ℕ) (keep : List ℕ → Bool) (t₀ t : List ℕ) (i m : ℕ) : Type 0 where
  pub gap : List ℕ
  pub wide : length gap ≡ (i - m) * size
  pub held : length (keeps keep (take i (rows_of size t₀))) ≡ m
  pub low : m ≤ i
  pub high : i ≤ count_of t₀
  pub same : length t ≡ length t₀
  pub is : t ≡ take 8 t₀ ++ (flat (keeps keep (take i (rows_of size t₀))) ++ (gap ++ (flat (drop i (rows_of size t₀)) ++ past_of size t₀)))

pub sweep-start : (size : ℕ) (keep : List ℕ → Bool) (t : List ℕ) → shaped size t ≡ true → Sweep size keep t t 0 0
unfolding keeps flat
sweep-start size keep t h =
    record { gap = []; wide = sym (zero-mul size); held = refl; low = omega arith; high = omega arith; same = refl; is = sym (is-table size t h).is }

module _ (size : ℕ) (keep : List ℕ → Bool) (t₀ t : List ℕ) (i m : ℕ) (h : shaped size t₀ ≡ true) (s : Sweep size keep t₀ t i m) (l : i < count_of t₀) where
  rs : List (List ℕ)
  rs = rows_of size t₀

  r : List ℕ
  r = get_or (rows_of size t₀) i []

  tail : List ℕ
  tail = flat (drop (i + 1) (rows_of size t₀)) ++ past_of size t₀

  inside : i < length (rows_of size t₀)
  inside = let x = is-table size t₀ h in omega (arith, x.many)

  length-r : length r ≡ size
  unfolding r
  length-r = sized-at size (rows_of size t₀) i (is-table size t₀ h).sized inside

  ks : List ℕ
  ks = flat (keeps keep (take i (rows_of size t₀)))

  length-ks : length ks ≡ m * size
  unfolding ks
  length-ks =
      length-flat size (keeps keep (take i (rows_of size t₀))) (keeps-sized size keep (take i (rows_of size t₀)) (sized-take size (rows_of size t₀) i (is-table size t₀ h).sized))
      ∙ ap (λ (k : ℕ). k * size) s.held

  split : t ≡ take 8 t₀ ++ (ks ++ (s.gap ++ (r ++ tail)))
  unfolding ks r tail flat
  split = s.is ∙ rw (drop-cons (rows_of size t₀) i [] inside, append_assoc, add-one)

  -- where the next row stands, and where it goes
  pub sweep-fits : 8 + i * size + size ≤ length t
  sweep-fits = let x = is-table size t₀ h in omega (arith, below-mul i (count_of t₀) size l, s.same)

  pub sweep-to : m * size ≤ i * size
  sweep-to = mul-le-mul_right size s.low

  pub sweep-row : item_in size t 8 i ≡ get_or (rows_of size t₀) i []
  unfolding item_in r
  sweep-row =
      let x = is-table size t₀ h in
      ap (λ (z : List ℕ). part z (8 + i * size) size) split
      ∙ reach (take 8 t₀) ks s.gap r tail (8 + i * size) size (omega (arith, gap-mul m i size s.low, x.head, length-ks, s.wide)) length-r

  pub sweep-row-length : length (item_in size t 8 i) ≡ size
  unfolding r
  sweep-row-length = ap length sweep-row ∙ length-r

  step-yes : keep (get_or (rows_of size t₀) i []) ≡ true → Sweep size keep t₀ (splice t (8 + m * size) (item_in size t 8 i)) (i + 1) (m + 1)
  unfolding r ks tail
  step-yes e =
      let x = is-table size t₀ h in
      let k = keeps-yes keep (rows_of size t₀) i inside e in
      let q : i + 1 - (m + 1) ≡ i - m = omega arith in
      let c : length (take 8 t₀) + length ks ≡ 8 + m * size = rw (x.head, length-ks) in
      let g : flat (keeps keep (take (i + 1) (rows_of size t₀))) ≡ ks ++ r = ap flat k ∙ flat_append (keeps keep (take i (rows_of size t₀))) (r ∷ []) ∙ ap (λ (z : List ℕ). ks ++ z) (flat-one r) in
      record {
        gap = drop size (s.gap ++ r);
        wide = simp (length-drop, length-append) (rw (length-r, q) (omega (arith, s.wide)));
        held = ap length k ∙ length-append (keeps keep (take i (rows_of size t₀))) (get_or (rows_of size t₀) i [] ∷ []) ∙ ap (λ (n : ℕ). n + 1) s.held;
        low = omega (arith, s.low);
        high = omega arith;
        same = length-splice t (8 + m * size) (item_in size t 8 i) (omega (arith, sweep-row-length, sweep-fits, sweep-to)) ∙ s.same;
        is =
            ap (λ (z : List ℕ). splice t (8 + m * size) z) sweep-row
            ∙ ap (λ (z : List ℕ). splice z (8 + m * size) r) split
            ∙ shift (take 8 t₀) ks s.gap r tail (8 + m * size) size c length-r
            ∙ ap (λ (z : List ℕ). take 8 t₀ ++ (z ++ (drop size (s.gap ++ r) ++ tail))) (sym g);
      }

  step-no : keep (get_or (rows_of size t₀) i []) ≡ false → Sweep size keep t₀ t (i + 1) m
  unfolding r ks tail
  step-no e =
      let k = keeps-no keep (rows_of size t₀) i inside e in
      let q : i + 1 - m ≡ i - m + 1 = omega (arith, s.low) in
      record {
        gap = s.gap ++ r;
        wide = length-append s.gap r ∙ rw (length-r, s.wide, q) (sym (next-mul (i - m) size));
        held = ap length k ∙ s.held;
        low = omega (arith, s.low);
        high = omega arith;
        same = s.same;
        is = split ∙ rw (k) (ap (λ (z : List ℕ). take 8 t₀ ++ (ks ++ z)) (sym (append_assoc s.gap r tail)));
      }

  -- a turn of the loop
  pub sweep-step : Sweep size keep t₀ (moved size t i m (keep (item_in size t 8 i))) (i + 1) (counted m (keep (item_in size t 8 i)))
  unfolding moved counted
  sweep-step = go (keep (get_or (rows_of size t₀) i [])) refl where
    go : (b : Bool) → keep (get_or (rows_of size t₀) i []) ≡ b → Sweep size keep t₀ (moved size t i m (keep (item_in size t 8 i))) (i + 1) (counted m (keep (item_in size t 8 i)))
    go true e = rw (ap keep sweep-row ∙ e) (step-yes e)
    go false e = rw (ap keep sweep-row ∙ e) (step-no e)

-- the end of the loop
module _ (size : ℕ) (keep : List ℕ → Bool) (t₀ t : List ℕ) (m : ℕ) (h : shaped size t₀ ≡ true) (s : Sweep size keep t₀ t (count_of t₀) m) where
  all-taken : take (count_of t₀) (rows_of size t₀) ≡ rows_of size t₀
  all-taken = let x = is-table size t₀ h in take_all (count_of t₀) (rows_of size t₀) (omega (arith, x.many))

  none_left : drop (count_of t₀) (rows_of size t₀) ≡ []
  none_left = let x = is-table size t₀ h in rw (← x.many) (drop-length (rows_of size t₀))

  held_all : length (keeps keep (rows_of size t₀)) ≡ m
  held_all = rw all-taken at s.held

  pub sweep-went : count_of t₀ - m ≡ went size keep t₀
  unfolding went
  sweep-went = rw held_all

  pub sweep-done : finished size t (count_of t₀) m ≡ kept size keep t₀
  unfolding finished kept went packed flat
  sweep-done =
      let x = is-table size t₀ h in
      let ks = flat (keeps keep (rows_of size t₀)) in
      let z : List ℕ = replicate ((count_of t₀ - m) * size) 0 in
      let rest = past_of size t₀ in
      let lk : length ks ≡ m * size = length-flat size (keeps keep (rows_of size t₀)) (keeps-sized size keep (rows_of size t₀) x.sized) ∙ ap (λ (k : ℕ). k * size) held_all in
      let e1 : t ≡ (take 8 t₀ ++ ks) ++ (s.gap ++ rest) = s.is ∙ rw (all-taken, none_left) (sym (append_assoc (take 8 t₀) ks (s.gap ++ rest))) in
      let e2 : splice t (8 + m * size) z ≡ take 8 t₀ ++ (ks ++ (z ++ rest)) =
      ap (λ (y : List ℕ). splice y (8 + m * size) z) e1
      ∙ splice-seam (take 8 t₀ ++ ks) s.gap z rest (8 + m * size) (rw (length-append, x.head, lk)) (length-replicate ((count_of t₀ - m) * size) 0 ∙ sym s.wide)
      ∙ append_assoc (take 8 t₀) ks (z ++ rest) in
      ap (λ (y : List ℕ). splice y 0 (bytes 8 m)) e2
      ∙ splice-seam [] (take 8 t₀) (bytes 8 m) (ks ++ (z ++ rest)) 0 refl (length-bytes 8 m ∙ sym x.head)
      ∙ rw held_all

-- WHAT IS KEPT, as a list: the filter of the rows
pub kept-holds : (size : ℕ) (keep : List ℕ → Bool) (t : List ℕ) → shaped size t ≡ true → length t < 256 ^ 8 → Holds size (kept size keep t) (keeps keep (rows_of size t)) (replicate (went size keep t * size) 0 ++ past_of size t)
unfolding kept
kept-holds size keep t h b =
    let x = is-table size t h in
    let p : places size t * 1 ≤ places size t * size = mul-le-mul_left (places size t) x.big in
    holds-packed size (keeps keep (rows_of size t)) (replicate (went size keep t * size) 0 ++ past_of size t) (omega (arith, keeps_fewer keep (rows_of size t), x.many)) (keeps-sized size keep (rows_of size t) x.sized)

-- ---- THE LOOP, as a caller writes it: `n = count(table)`, then turns of `row`, the caller's test, `move_row`, and last `finish`.
-- The premises are what the callees ensure; t is the table at a turn's start, u and k the table and the number that `move_row` leaves
pub record Sweeping (size : ℕ) (keep : List ℕ → Bool) (t₀ : List ℕ) (n : ℕ) (t : List ℕ) (i m : ℕ) : Type 0 where
  pub all : n ≡ count_of t₀
  pub low : m ≤ i
  pub high : i ≤ n
  pub same : length t ≡ length t₀
  pub on : Sweep size keep t₀ t i m

pub sweeping-start : (size : ℕ) (keep : List ℕ → Bool) (t : List ℕ) (n : ℕ) → shaped size t ≡ true → n ≡ count_of t → Sweeping size keep t n t 0 0
sweeping-start size keep t n h e = record { all = e; low = omega arith; high = omega arith; same = refl; on = sweep-start size keep t h }

module _ (size : ℕ) (keep : List ℕ → Bool) (t₀ : List ℕ) (n : ℕ) (t : List ℕ) (i m : ℕ) (h : shaped size t₀ ≡ true) (s : Sweeping size keep t₀ n t i m) where
  module _ (l : i < n) where
    pub sweeping-fits : 8 + i * size + size ≤ length t
    sweeping-fits = sweep-fits size keep t₀ t i m h s.on (omega (arith, s.all))

    pub sweeping-row : (r : List ℕ) → r ≡ item_in size t 8 i → length r ≡ size
    sweeping-row r e = ap length e ∙ sweep-row-length size keep t₀ t i m h s.on (omega (arith, s.all))

    pub sweeping-reach : (r : List ℕ) (k : ℕ) → r ≡ item_in size t 8 i → k ≤ size → k ≤ length r
    sweeping-reach r k e f = omega (arith, sweeping-row r e)

    pub sweeping-next : (r : List ℕ) (b : Bool) (u : List ℕ) (k : ℕ) → r ≡ item_in size t 8 i → b ≡ keep r → u ≡ moved size t i m b → k ≡ counted m b → Sweeping size keep t₀ n u (i + 1) k
    sweeping-next r b u k e f g j =
        let c : b ≡ keep (item_in size t 8 i) = f ∙ ap keep e in
        let q : Sweep size keep t₀ u (i + 1) k = rw (g, j, c) (sweep-step size keep t₀ t i m h s.on (omega (arith, s.all))) in
        record { all = s.all; low = q.low; high = omega arith; same = q.same; on = q }

  pub sweeping-big : 1 ≤ size
  sweeping-big = (is-table size t₀ h).big

  pub sweeping-whole : 8 + n * size ≤ length t
  sweeping-whole =
      let x = is-table size t₀ h in
      let e = ap (λ (k : ℕ). k * size) s.all in
      omega (arith, x.fits, s.same)

  module _ (l : n ≤ i) where
    at-end : Sweep size keep t₀ t (count_of t₀) m
    at-end = let e : i ≡ count_of t₀ = omega (arith, s.all, s.high) in rw e at s.on

    pub sweeping-kept : (u : List ℕ) → u ≡ finished size t n m → u ≡ kept size keep t₀
    sweeping-kept u e = e ∙ rw s.all (sweep-done size keep t₀ t m h at-end)

    pub sweeping-went : (k : ℕ) → k ≡ n - m → k ≡ went size keep t₀
    sweeping-went k e = e ∙ rw s.all (sweep-went size keep t₀ t m h at-end)

-- ---- WHAT KEEPING LEAVES, as a list: the filter of the rows, zeros, and what stood past them
pub kept-after : (size : ℕ) (keep : List ℕ → Bool) (t : List ℕ) → shaped size t ≡ true → length t < 256 ^ 8 → After size t (kept size keep t) (keeps keep (rows_of size t)) (replicate (went size keep t * size) 0 ++ past_of size t)
unfolding kept went
kept-after size keep t h b =
    let x = is-table size t h in
    let ks = keeps keep (rows_of size t) in
    let f : length ks ≤ count_of t = omega (arith, keeps_fewer keep (rows_of size t), x.many) in
    let g = gap-mul (length ks) (count_of t) size f in
    let z : List ℕ = replicate ((count_of t - length ks) * size) 0 in
    let lz : length z ≡ (count_of t - length ks) * size = length-replicate ((count_of t - length ks) * size) 0 in
    let n = length-packed size ks (z ++ past_of size t) (keeps-sized size keep (rows_of size t) x.sized) in
    after size t (packed ks (z ++ past_of size t)) ks (z ++ past_of size t) h (kept-holds size keep t h b)
    (n ∙ omega (arith, length-append z (past_of size t), length-past size t, x.fits))
    (omega (arith, x.room))

-- ---- `move_row`, one law for each way through it
module _ (size : ℕ) (t : List ℕ) (i m : ℕ) (keep : Bool) where
  pub moved-not : not keep ≡ true → t ≡ moved size t i m keep
  unfolding moved
  moved-not e = let f = not-true keep e in sym (rw (f, moved))

  pub counted-not : not keep ≡ true → m ≡ counted m keep
  unfolding counted
  counted-not e = let f = not-true keep e in sym (rw (f, counted))

  pub moved-stands : not keep ≡ false → m ≡ i → 8 + i * size + size ≤ length t → t ≡ moved size t i m keep
  unfolding moved item_in
  moved-stands e f l = let g = not-false keep e in sym (rw (g, moved, f) (splice-own t (8 + i * size) size l))

  pub moved_down : (u : List ℕ) → not keep ≡ false → u ≡ splice t (8 + m * size) (part t (8 + i * size) size) → u ≡ moved size t i m keep
  unfolding moved item_in
  moved_down u e f = let g = not-false keep e in f ∙ sym (rw (g, moved))

  pub counted-one : not keep ≡ false → m + 1 ≡ counted m keep
  unfolding counted
  counted-one e = let g = not-false keep e in sym (rw (g, counted))
