-- The laws of `specs/Rows.antt`: a table is a list of rows. Assumes nothing.
use mathlib.Core.Path.{◌≡◌, refl, sym, ap, ◌∙◌}
use mathlib.Core.Bool.{Bool, true, false, not}
use mathlib.Core.Logic.{⊎_elim}
use mathlib.Core.List.{List, [], ◌∷◌, ◌++◌, append_assoc}
use Prim.Native.Nat.{ℕ, suc, ◌+◌, ◌-◌, ◌*◌, ◌/◌, ◌%◌, ◌≤◌, ◌<◌, ◌^◌}
use native.Mathlib.Nat.{mul-le-mul_right, mul-le-mul_left, div-add-mod'}
use native.Mathlib.Omega.{arith}
use lib.Dec.{eqb, ltb, leb}
use lib.ListN.{length, get_or, set, take, drop, length-drop, length-append, length-set, take-append-drop}
use lib.Seq.{take_at, drop_at, length-take-le, drop-drop, set_split, split_at}
use borrow.Author.Tests.{eq-eqb, ne_eqb, eqb-true, eqb-false, not-false, le-ltb, lt-ltb, ltb-true, ltb-false, leb-true, le-leb}
use Rattle.wire.specs.Bytes.{part, splice, word, bytes}
use Rattle.wire.specs.Items.{items, item_in, first_of, has_part, flat}
use Rattle.std.specs.Prelude.{Option, Some}
use Rattle.std.specs.Slice.Iter.{chunks_exact_rest, chunks_exact_size, chunks_exact_steps}
use Rattle.std.specs.declared.slice.ChunksExact.{ChunksExact}
use Rattle.std.proofs.lemmas.Iterator.{YieldsList}
use Rattle.wire.proofs.Chains.{yields-items}
use Rattle.wire.proofs.Laws.{true-or-false, true-not-false, length-bytes, word_bytes, length-splice}
use Rattle.wire.proofs.Lists.{Sized, none, one, sized-at, sized-append, sized_set, sized-take, length-flat, flat_append, flat-one, chunks-flat, flat-chunks, next-mul, below-mul, splice-seam, part-seam, length-chunks, chunks-sized, found_below}
use Rattle.table.specs.Rows.{count_of, places, shaped, rows_of, past_of, packed, appended, with_row, round_of, has_round_part}

-- ---- what a shape says
pub record IsTable (size : ℕ) (t : List ℕ) : Type 0 where
  pub long : 8 ≤ length t
  pub big : 1 ≤ size
  pub some : 1 ≤ places size t
  pub whole : length t ≡ 8 + places size t * size
  pub room : count_of t ≤ places size t
  pub fits : 8 + count_of t * size ≤ length t
  pub head : length (take 8 t) ≡ 8
  pub sized : Sized size (rows_of size t)
  pub many : length (rows_of size t) ≡ count_of t
  pub is : take 8 t ++ (flat (rows_of size t) ++ past_of size t) ≡ t

-- the tests one after the other
module _ (size : ℕ) (t : List ℕ) where
  pub shaped-short : length t < 8 → shaped size t ≡ false
  unfolding shaped
  shaped-short h = rw (lt-ltb _ _ h, shaped)

  pub shaped-no-size : 8 ≤ length t → size ≡ 0 → shaped size t ≡ false
  unfolding shaped
  shaped-no-size h e = rw (le-ltb _ _ h, eq-eqb _ _ e, shaped)

  pub shaped-over : 8 ≤ length t → (size ≡ 0 → ⊥) → ((length t - 8) % size ≡ 0 → ⊥) → shaped size t ≡ false
  unfolding shaped
  shaped-over h e f = rw (le-ltb _ _ h, ne_eqb _ _ e, ne_eqb _ _ f, shaped)

  pub shaped-none : 8 ≤ length t → (size ≡ 0 → ⊥) → (length t - 8) % size ≡ 0 → (length t - 8) / size ≡ 0 → shaped size t ≡ false
  unfolding shaped places
  shaped-none h e f g = rw (le-ltb _ _ h, ne_eqb _ _ e, eq-eqb _ _ f, eq-eqb _ _ g, shaped)

  pub shaped-last : 8 ≤ length t → (size ≡ 0 → ⊥) → (length t - 8) % size ≡ 0 → ((length t - 8) / size ≡ 0 → ⊥) → shaped size t ≡ leb (count_of t) (places size t)
  unfolding shaped places
  shaped-last h e f g = rw (le-ltb _ _ h, ne_eqb _ _ e, eq-eqb _ _ f, ne_eqb _ _ g, shaped)

record Tests (size : ℕ) (t : List ℕ) : Type 0 where
  long : 8 ≤ length t
  big : size ≡ 0 → ⊥
  even : (length t - 8) % size ≡ 0
  some : (length t - 8) / size ≡ 0 → ⊥
  room : count_of t ≤ places size t

tests : (size : ℕ) (t : List ℕ) → shaped size t ≡ true → Tests size t
tests size t h =
    ⊎_elim
    (λ a. absurd (true-not-false (sym h ∙ shaped-short size t (ltb-true _ _ a))))
    (λ a.
    let long = ltb-false _ _ a in
    ⊎_elim
    (λ b. absurd (true-not-false (sym h ∙ shaped-no-size size t long (eqb-true _ _ b))))
    (λ b.
    let big = eqb-false _ _ b in
    ⊎_elim
    (λ d.
    let even = eqb-true _ _ d in
    ⊎_elim
    (λ e. absurd (true-not-false (sym h ∙ shaped-none size t long big even (eqb-true _ _ e))))
    (λ e.
    let some = eqb-false _ _ e in
    record { long = long; big = big; even = even; some = some; room = leb-true _ _ (sym (shaped-last size t long big even some) ∙ h) })
    (true-or-false (eqb ((length t - 8) / size) 0)))
    (λ d. absurd (true-not-false (sym h ∙ shaped-over size t long big (eqb-false _ _ d))))
    (true-or-false (eqb ((length t - 8) % size) 0)))
    (true-or-false (eqb size 0)))
    (true-or-false (ltb (length t) 8))

pub is-table : (size : ℕ) (t : List ℕ) → shaped size t ≡ true → IsTable size t
unfolding places rows_of past_of items
is-table size t h =
    let s = tests size t h in
    let long : 8 ≤ length t = s.long in
    let room : count_of t ≤ (length t - 8) / size = s.room in
    let whole : length t ≡ 8 + (length t - 8) / size * size = omega (arith, div-add-mod' (length t - 8) size, s.even) in
    let m : count_of t * size ≤ (length t - 8) / size * size = mul-le-mul_right size room in
    let fits : 8 + count_of t * size ≤ length t = omega arith in
    record {
      long = long;
      big = omega (arith, s.big);
      some = omega (arith, s.some);
      whole = whole;
      room = room;
      fits = fits;
      head = length-take-le 8 t long;
      sized = chunks-sized size (drop 8 t) (count_of t) (simp length-drop (omega arith));
      many = length-chunks size (drop 8 t) (count_of t);
      is =
          let e : drop (8 + count_of t * size) t ≡ drop (count_of t * size) (drop 8 t) = sym (drop-drop (count_of t * size) 8 t) in
          rw (e, flat-chunks size (drop 8 t) (count_of t)) (take-append-drop 8 t);
    }

-- another table of the same length is in shape where its count has room
pub shaped-same : (size : ℕ) (t u : List ℕ) → shaped size t ≡ true → length u ≡ length t → count_of u ≤ places size t → shaped size u ≡ true
unfolding places
shaped-same size t u h l r =
    let s = tests size t h in
    shaped-last size u (rw l s.long) s.big (rw l s.even) (rw l s.some) ∙ le-leb (count_of u) ((length u - 8) / size) (rw l r)

-- ---- the list in the bytes, and the bytes from the list
pub record Holds (size : ℕ) (t : List ℕ) (rs : List (List ℕ)) (rest : List ℕ) : Type 0 where
  pub count : count_of t ≡ length rs
  pub rows : rows_of size t ≡ rs
  pub past : past_of size t ≡ rest

pub holds_frame : (size : ℕ) (h : List ℕ) (rs : List (List ℕ)) (rest : List ℕ) → length h ≡ 8 → word h ≡ length rs → Sized size rs → Holds size (h ++ (flat rs ++ rest)) rs rest
unfolding count_of rows_of past_of items part
holds_frame size h rs rest l w s =
    let t8 : take 8 (h ++ (flat rs ++ rest)) ≡ h = take_at h (flat rs ++ rest) 8 l in
    let d8 : drop 8 (h ++ (flat rs ++ rest)) ≡ flat rs ++ rest = drop_at h (flat rs ++ rest) 8 l in
    let c : word (take 8 (h ++ (flat rs ++ rest))) ≡ length rs = ap word t8 ∙ w in
    record {
      count = c;
      rows = rw (c, d8) (chunks-flat size rs rest s);
      past = rw (c, ← drop-drop (length rs * size) 8 (h ++ (flat rs ++ rest)), d8) (drop_at (flat rs) rest (length rs * size) (length-flat size rs s));
    }

pub holds-packed : (size : ℕ) (rs : List (List ℕ)) (rest : List ℕ) → length rs < 256 ^ 8 → Sized size rs → Holds size (packed rs rest) rs rest
unfolding packed
holds-packed size rs rest l s = holds_frame size (bytes 8 (length rs)) rs rest (length-bytes 8 (length rs)) (word_bytes 8 (length rs) l) s

pub length-packed : (size : ℕ) (rs : List (List ℕ)) (rest : List ℕ) → Sized size rs → length (packed rs rest) ≡ 8 + (length rs * size + length rest)
unfolding packed
length-packed size rs rest s = simp length-append (omega (arith, length-bytes 8 (length rs), length-flat size rs s))

word_same : (xs ys : List ℕ) → length xs ≡ length ys → ((k : ℕ) → get_or xs k 0 < 256) → ((k : ℕ) → get_or ys k 0 < 256) → word xs ≡ word ys → xs ≡ ys
unfolding word
word_same [] [] l b c e = refl
word_same [] (y ∷ ys) l b c e = absurd (omega arith)
word_same (x ∷ xs) [] l b c e = absurd (omega arith)
word_same (x ∷ xs) (y ∷ ys) l b c e =
    let p : x < 256 = b 0 in
    let q : y < 256 = c 0 in
    let f : x ≡ y = omega arith in
    cc (f, word_same xs ys (omega arith) (λ k. b (suc k)) (λ k. c (suc k)) (omega arith))

-- THE BYTES ARE DETERMINED by the rows in use and the bytes past them
pub determined : (size : ℕ) (t u : List ℕ) → shaped size t ≡ true → shaped size u ≡ true → ((k : ℕ) → get_or (take 8 t) k 0 < 256) → ((k : ℕ) → get_or (take 8 u) k 0 < 256) → rows_of size t ≡ rows_of size u → past_of size t ≡ past_of size u → t ≡ u
unfolding count_of part
determined size t u h k b c e f =
    let x = is-table size t h in
    let y = is-table size u k in
    let n : word (take 8 t) ≡ word (take 8 u) = sym x.many ∙ ap length e ∙ y.many in
    let g : take 8 t ≡ take 8 u = word_same (take 8 t) (take 8 u) (x.head ∙ sym y.head) b c n in
    sym x.is ∙ cc (g, e, f) ∙ y.is

-- ---- one row
pub row_fits : (size : ℕ) (t : List ℕ) (i : ℕ) → shaped size t ≡ true → i < count_of t → 8 + i * size + size ≤ length t
row_fits size t i h l = let x = is-table size t h in omega (arith, below-mul i (count_of t) size l)

module _ (size : ℕ) (h : List ℕ) (rs : List (List ℕ)) (rest : List ℕ) (i : ℕ) (l : length h ≡ 8) (s : Sized size rs) (k : i < length rs) where
  front : List ℕ
  front = h ++ flat (take i rs)

  back : List ℕ
  back = flat (drop (suc i) rs) ++ rest

  length_front : length front ≡ 8 + i * size
  unfolding front
  length_front =
      let e : length (take i rs) ≡ i = length-take-le i rs (omega arith) in
      simp length-append (rw (l, length-flat size (take i rs) (sized-take size rs i s), e))

  with_at : (x : List ℕ) → h ++ (flat (take i rs ++ (x ∷ drop (suc i) rs)) ++ rest) ≡ front ++ (x ++ back)
  unfolding front back flat
  with_at x = rw flat_append (simp append_assoc)

  at_row : h ++ (flat rs ++ rest) ≡ front ++ (get_or rs i [] ++ back)
  at_row = ap (λ (z : List (List ℕ)). h ++ (flat z ++ rest)) (split_at rs i [] k) ∙ with_at (get_or rs i [])

  pub frame_row : part (h ++ (flat rs ++ rest)) (8 + i * size) size ≡ get_or rs i []
  frame_row = ap (λ (z : List ℕ). part z (8 + i * size) size) at_row ∙ part-seam front (get_or rs i []) back (8 + i * size) size length_front (sized-at size rs i s k)

  pub frame-set : (row : List ℕ) → length row ≡ size → splice (h ++ (flat rs ++ rest)) (8 + i * size) row ≡ h ++ (flat (set rs i row) ++ rest)
  frame-set row e =
      ap (λ (z : List ℕ). splice z (8 + i * size) row) at_row
      ∙ splice-seam front (get_or rs i []) row back (8 + i * size) length_front (e ∙ sym (sized-at size rs i s k))
      ∙ sym (with_at row)
      ∙ ap (λ (z : List (List ℕ)). h ++ (flat z ++ rest)) (sym (set_split rs i row k))

-- row i, as the bytes where it stands, is row i of the list
pub row_is : (size : ℕ) (t : List ℕ) (i : ℕ) → shaped size t ≡ true → i < count_of t → item_in size t 8 i ≡ get_or (rows_of size t) i []
unfolding item_in
row_is size t i h l =
    let x = is-table size t h in
    ap (λ (z : List ℕ). part z (8 + i * size) size) (sym x.is) ∙ frame_row size (take 8 t) (rows_of size t) (past_of size t) i x.head x.sized (omega arith)

pub row-length : (size : ℕ) (t : List ℕ) (i : ℕ) → shaped size t ≡ true → i < count_of t → length (item_in size t 8 i) ≡ size
row-length size t i h l = let x = is-table size t h in ap length (row_is size t i h l) ∙ sized-at size (rows_of size t) i x.sized (omega arith)

-- ---- a row changed
pub set_is : (size : ℕ) (t : List ℕ) (i : ℕ) (row : List ℕ) → shaped size t ≡ true → i < count_of t → length row ≡ size → splice t (8 + i * size) row ≡ with_row size t i row
unfolding with_row
set_is size t i row h l e =
    let x = is-table size t h in
    ap (λ (z : List ℕ). splice z (8 + i * size) row) (sym x.is) ∙ frame-set size (take 8 t) (rows_of size t) (past_of size t) i x.head x.sized (omega arith) row e

pub set_holds : (size : ℕ) (t : List ℕ) (i : ℕ) (row : List ℕ) → shaped size t ≡ true → length row ≡ size → Holds size (with_row size t i row) (set (rows_of size t) i row) (past_of size t)
unfolding with_row count_of part
set_holds size t i row h e =
    let x = is-table size t h in
    holds_frame size (take 8 t) (set (rows_of size t) i row) (past_of size t) x.head (sym x.many ∙ sym (length-set (rows_of size t) i row)) (sized_set size (rows_of size t) i row e x.sized)

-- ---- a row more
pub append-is : (size : ℕ) (t row : List ℕ) → shaped size t ≡ true → count_of t < places size t → length row ≡ size → splice (splice t (8 + count_of t * size) row) 0 (bytes 8 (count_of t + 1)) ≡ appended size t row
unfolding appended packed
append-is size t row h l e =
    let x = is-table size t h in
    let m = below-mul (count_of t) (places size t) size l in
    let rs = rows_of size t in
    let rest = past_of size t in
    let len = length-append (take 8 t) (flat rs ++ rest) in
    let len2 = length-append (flat rs) rest in
    let lf = length-flat size rs x.sized in
    let lt = ap length x.is in
    let n : length (take 8 t) + (length rs * size + length rest) ≡ length t = omega arith in
    let room : size ≤ length rest = omega (arith, rw x.many at n) in
    let a : length (take 8 t ++ flat rs) ≡ 8 + count_of t * size = rw (length-append, x.head, lf, x.many) in
    let e1 : t ≡ (take 8 t ++ flat rs) ++ (take size rest ++ drop size rest) = sym x.is ∙ rw (take-append-drop size rest) (sym (append_assoc (take 8 t) (flat rs) rest)) in
    let e2 : splice t (8 + count_of t * size) row ≡ take 8 t ++ (flat rs ++ (row ++ drop size rest)) =
    ap (λ (z : List ℕ). splice z (8 + count_of t * size) row) e1
    ∙ splice-seam (take 8 t ++ flat rs) (take size rest) row (drop size rest) (8 + count_of t * size) a (e ∙ sym (length-take-le size rest room))
    ∙ append_assoc (take 8 t) (flat rs) (row ++ drop size rest) in
    let c : length (rs ++ (row ∷ [])) ≡ count_of t + 1 = length-append rs (row ∷ []) ∙ ap (λ (k : ℕ). k + 1) x.many in
    let f : flat (rs ++ (row ∷ [])) ++ drop size rest ≡ flat rs ++ (row ++ drop size rest) = rw (flat_append, flat-one, append_assoc) in
    ap (λ (z : List ℕ). splice z 0 (bytes 8 (count_of t + 1))) e2
    ∙ splice-seam [] (take 8 t) (bytes 8 (count_of t + 1)) (flat rs ++ (row ++ drop size rest)) 0 refl (length-bytes 8 (count_of t + 1) ∙ sym x.head)
    ∙ rw (c, f)

pub append-holds : (size : ℕ) (t row : List ℕ) → shaped size t ≡ true → count_of t < places size t → length t < 256 ^ 8 → length row ≡ size → Holds size (appended size t row) (rows_of size t ++ (row ∷ [])) (drop size (past_of size t))
unfolding appended
append-holds size t row h l b e =
    let x = is-table size t h in
    let q = length-append (rows_of size t) (row ∷ []) in
    let p : places size t * 1 ≤ places size t * size = mul-le-mul_left (places size t) x.big in
    holds-packed size (rows_of size t ++ (row ∷ [])) (drop size (past_of size t)) (omega (arith, x.many)) (sized-append size (rows_of size t) (row ∷ []) x.sized (one e none))

-- what omega needs of a table: at least 8 bytes; no more rows in use than bytes
pub is-long : (size : ℕ) (t : List ℕ) → shaped size t ≡ true → 8 ≤ length t
is-long size t h = (is-table size t h).long

pub few-rows : (size : ℕ) (t : List ℕ) → shaped size t ≡ true → count_of t * size + 8 ≤ length t
few-rows size t h = omega (arith, is-table size t h)

-- ---- `append` and `set_row`, in the form in which their places hold the facts
module _ (size : ℕ) (t row : List ℕ) (n : ℕ) (h : shaped size t ≡ true) (l : count_of t < places size t) (e : length row ≡ size) (c : n ≡ count_of t) where
  pub append-room : 8 + n * size + length row ≤ length t
  append-room =
      let x = is-table size t h in
      let q = ap (λ (k : ℕ). k * size) c in
      omega (arith, below-mul (count_of t) (places size t) size l)

  pub append-exit : (u v : List ℕ) → u ≡ splice t (8 + n * size) row → v ≡ splice u 0 (bytes 8 (n + 1)) → v ≡ appended size t row
  append-exit u v f g = g ∙ rw (f, c) (append-is size t row h l e)

  pub append-few : n < length t
  append-few =
      let x = is-table size t h in
      let p : places size t * 1 ≤ places size t * size = mul-le-mul_left (places size t) x.big in
      omega arith

module _ (size : ℕ) (t : List ℕ) (i : ℕ) (row : List ℕ) (h : shaped size t ≡ true) (l : i < count_of t) (e : length row ≡ size) where
  pub set_room : 8 + i * size + length row ≤ length t
  set_room = omega (arith, row_fits size t i h l)

  pub set-exit : (u : List ℕ) → u ≡ splice t (8 + i * size) row → u ≡ with_row size t i row
  set-exit u f = f ∙ set_is size t i row h l e

-- ---- for a caller's requires: `shape` and `room` said yes
pub is-shaped : (size : ℕ) (t : List ℕ) (b : Bool) → b ≡ shaped size t → not b ≡ false → shaped size t ≡ true
is-shaped size t b e f = sym e ∙ not-false b f

pub has_room : (size : ℕ) (t : List ℕ) (b : Bool) → b ≡ ltb (count_of t) (places size t) → not b ≡ false → count_of t < places size t
has_room size t b e f = ltb-true (count_of t) (places size t) (sym e ∙ not-false b f)

pub is-big : (size : ℕ) (t : List ℕ) → shaped size t ≡ true → 1 ≤ size
is-big size t h = (is-table size t h).big

pub room-is : (size : ℕ) (t : List ℕ) (n : ℕ) → n ≡ count_of t → ltb n ((length t - 8) / size) ≡ ltb (count_of t) (places size t)
unfolding places
room-is size t n e = rw e

-- ---- WHAT A CALL LEAVES, as a list: the rows in use, the bytes past them, the length, and still in shape
pub record After (size : ℕ) (t u : List ℕ) (rs : List (List ℕ)) (rest : List ℕ) : Type 0 where
  pub count : count_of u ≡ length rs
  pub rows : rows_of size u ≡ rs
  pub past : past_of size u ≡ rest
  pub same : length u ≡ length t
  pub shape : shaped size u ≡ true

pub after : (size : ℕ) (t u : List ℕ) (rs : List (List ℕ)) (rest : List ℕ) → shaped size t ≡ true → Holds size u rs rest → length u ≡ length t → length rs ≤ places size t → After size t u rs rest
after size t u rs rest h x l m =
    record { count = x.count; rows = x.rows; past = x.past; same = l; shape = shaped-same size t u h l (omega (arith, x.count)) }

pub length-past : (size : ℕ) (t : List ℕ) → length (past_of size t) ≡ length t - (8 + count_of t * size)
unfolding past_of
length-past size t = length-drop (8 + count_of t * size) t

pub append-after : (size : ℕ) (t row : List ℕ) → shaped size t ≡ true → count_of t < places size t → length row ≡ size → length t < 256 ^ 8 → After size t (appended size t row) (rows_of size t ++ (row ∷ [])) (drop size (past_of size t))
unfolding appended
append-after size t row h l e b =
    let x = is-table size t h in
    let m = below-mul (count_of t) (places size t) size l in
    let q : length (rows_of size t ++ (row ∷ [])) ≡ count_of t + 1 = length-append (rows_of size t) (row ∷ []) ∙ ap (λ (k : ℕ). k + 1) x.many in
    let z : Sized size (rows_of size t ++ (row ∷ [])) = sized-append size (rows_of size t) (row ∷ []) x.sized (one e none) in
    let n : length (packed (rows_of size t ++ (row ∷ [])) (drop size (past_of size t))) ≡ 8 + ((count_of t + 1) * size + (length t - (8 + count_of t * size) - size)) =
    length-packed size (rows_of size t ++ (row ∷ [])) (drop size (past_of size t)) z ∙ rw (q, length-drop, length-past) in
    after size t (packed (rows_of size t ++ (row ∷ [])) (drop size (past_of size t))) (rows_of size t ++ (row ∷ [])) (drop size (past_of size t)) h (append-holds size t row h l b e)
    (n ∙ omega (arith, next-mul (count_of t) size))
    (omega arith)

pub set_after : (size : ℕ) (t : List ℕ) (i : ℕ) (row : List ℕ) → shaped size t ≡ true → i < count_of t → length row ≡ size → After size t (with_row size t i row) (set (rows_of size t) i row) (past_of size t)
set_after size t i row h l e =
    let x = is-table size t h in
    let f = row_fits size t i h l in
    after size t (with_row size t i row) (set (rows_of size t) i row) (past_of size t) h (set_holds size t i row h e)
    (ap length (sym (set_is size t i row h l e)) ∙ length-splice t (8 + i * size) row (omega arith))
    (omega (arith, length-set (rows_of size t) i row, x.many, x.room))

-- ---- loops over the rows: the items from 8 on, as many as the count says
pub rows_fit : (size : ℕ) (t : List ℕ) (n : ℕ) → shaped size t ≡ true → n ≡ count_of t → 8 + n * size ≤ length t
rows_fit size t n h e =
    let q = ap (λ (k : ℕ). k * size) e in
    omega (arith, (is-table size t h).fits)

pub rows_are : (size : ℕ) (t : List ℕ) (n : ℕ) → n ≡ count_of t → items size t 8 n ≡ rows_of size t
unfolding rows_of
rows_are size t n e = rw e

-- what a search of the items found, as a search of the rows
pub rows-first : (size : ℕ) (test : List ℕ → Bool) (t : List ℕ) (n : ℕ) (f : Option ℕ) → n ≡ count_of t → f ≡ first_of test (items size t 8 n) 0 → f ≡ first_of test (rows_of size t) 0
rows-first size test t n f e g = g ∙ rw (rows_are size t n e)

-- what was found is a row of the table: for `row` after a find. f is what the find answered
module _ (size : ℕ) (test : List ℕ → Bool) (t : List ℕ) (f : Option ℕ) (i : ℕ) (h : shaped size t ≡ true) (e : f ≡ first_of test (rows_of size t) 0) (g : f ≡ Some i) where
  pub row_below : i < count_of t
  unfolding rows_of
  row_below = found_below size test t 8 (count_of t) f i e g

  pub found-row-fits : 8 + i * size + size ≤ length t
  found-row-fits = row_fits size t i h row_below

  pub found-row-length : (r : List ℕ) → r ≡ item_in size t 8 i → length r ≡ size
  found-row-length r q = ap length q ∙ row-length size t i h row_below

  pub found-row-is : (r : List ℕ) → r ≡ item_in size t 8 i → r ≡ get_or (rows_of size t) i []
  found-row-is r q = q ∙ row_is size t i h row_below

-- ---- a row of a round
module _ (round at : ℕ) (what row : List ℕ) (n : ℕ) (e : n ≡ word (part row 0 4)) where
  pub other-round : (n ≡ round → ⊥) → false ≡ has_round_part round at what row
  unfolding has_round_part round_of
  other-round h = sym (rw (ne_eqb (word (part row 0 4)) round (λ z. h (e ∙ z)), has_round_part))

  pub this-round : (b : Bool) → n ≡ round → b ≡ has_part at what row → b ≡ has_round_part round at what row
  unfolding has_round_part round_of
  this-round b h g = g ∙ sym (rw (eq-eqb (word (part row 0 4)) round (sym e ∙ h), has_round_part))

-- a chain over the rows in use
pub yields-rows : (size : ℕ) (t : List ℕ) {s : ChunksExact ℕ} → shaped size t ≡ true → chunks_exact_rest s ≡ take (8 + count_of t * size - 8) (drop 8 t) → chunks_exact_size s ≡ size → YieldsList chunks_exact_steps (λ x. x.now) s (rows_of size t)
unfolding rows_of
yields-rows size t h e f = yields-items size t 8 (count_of t) e f (is-big size t h) (rows_fit size t (count_of t) h refl)
