-- Putting certificates on the pile, and marking them. Assumes nothing.
use mathlib.Core.Path.{◌≡◌, refl, sym, ap, ◌∙◌}
use mathlib.Core.Bool.{Bool, true, false}
use mathlib.Core.List.{List, [], ◌∷◌, ◌++◌, append-nil}
use mathlib.Core.Logic.{◌≢◌}
use Prim.Native.Nat.{ℕ, zero, suc, ◌+◌, ◌-◌, ◌*◌, ◌/◌, ◌≤◌, ◌<◌}
use native.Mathlib.Numerals.{add-one}
use native.Mathlib.Omega.{arith}
use borrow.Author.Count.{below_more}
use borrow.Author.Tests.{eq-eqb, ne_eqb, lt-ltb, le-ltb}
use lib.Dec.{eqb, ltb}
use lib.ListN.{length, get_or, set, drop, length-set, drop_of_length-le}
use lib.Seq.{get_or-set_same, get_or-set_other, drop-cons}
use Rattle.wire.specs.Items.{items, item_in, flat, chunks}
use Rattle.wire.proofs.Laws.{length_part}
use Rattle.wire.proofs.Lists.{Sized, length-flat, chunks-flat, item-is, length-items}
use Rattle.table.specs.Rows.{count_of}
use Rattle.room.specs.Numbers.{numbers_of, Put}
use Rattle.room.proofs.Laws.{length-numbers}
use Rattle.consensus.specs.Table.{Cert, cert_at, find}
use Rattle.consensus.specs.Walk.{Pile, put_one, put_all, open_parents, parents_at}
use Rattle.consensus.proofs.Marks.{ones, ones-le, ones-set}
use Rattle.held.specs.Rows.{held_of, held_shape, lasts_of, state_of}
use Rattle.held.proofs.Laws.{length-held, origin-below, parents-sized}
use Rattle.std.specs.Prelude.{Option, Some, None, MatchOption, IsSome}
use Rattle.dag.specs.Steps.{stack, pile_of, Sound, PutOn}

-- ---- the last committed round

module _ (n : ℕ) (st t : List ℕ) (j : ℕ) where
  pub last_fits : (o : ℕ) → held_shape n t ≡ true → length st ≡ n * 4 → j < count_of t → o ≡ (cert_at (held_of t) j).origin → o * 4 + 4 ≤ length st
  last_fits o s l h e = let b = origin-below n t j s h in omega arith

pub last-told : (st t : List ℕ) (j o l r : ℕ) → o ≡ (cert_at (held_of t) j).origin → l ≡ get_or (lasts_of st) o 0 → r ≡ (cert_at (held_of t) j).round
    → eqb l r ≡ eqb (get_or (lasts_of st) (cert_at (held_of t) j).origin 0) (cert_at (held_of t) j).round
last-told st t j o l r eo el er = rw (el, er, eo)

-- ---- the pile

stack_set : (ws : List ℕ) (h k v : ℕ) → h ≤ k → stack (set ws k v) h ≡ stack ws h
unfolding stack
stack_set ws zero k v le = refl
stack_set ws (suc h) k v le =
    let ne : h ≢ k = omega arith in
    let i = stack_set ws h k v (omega arith) in
    rw (get_or-set_other ws k h v 0 ne, i)

stack_push : (ws : List ℕ) (h v : ℕ) → h < length ws → stack (set ws h v) (h + 1) ≡ v ∷ stack ws h
unfolding stack
stack_push ws h v lt = rw (add-one, get_or-set_same ws h v 0 lt, stack_set ws h h v (omega arith))

-- a step that leaves all as it is
put-none : (g : Pile → Pile) (p : List ℕ) (h : ℕ) (f : List ℕ) → Sound p h f → g (pile_of p h f) ≡ pile_of p h f → PutOn g p h f p h f
put-none g p h f s e = record { sound = s; is = sym e; balance = refl; pile = refl; marks = refl }

module _ (p : List ℕ) (h : ℕ) (f : List ℕ) (j : ℕ) (s : Sound p h f) where
  -- marked already
  pub put-seen : (get_or f j 0 ≡ 0 → ⊥) → PutOn (put_one j) p h f p h f
  unfolding put_one
  put-seen u = put-none (put_one j) p h f s (rw (ne_eqb (get_or f j 0) 0 u, put_one))

  module _ (l : j < length f) (z : get_or f j 0 ≡ 0) where
    more : ones (set f j 1) ≡ suc (ones f)
    more = ones-set f j l z

    below : ones f < length f
    below =
        let a = ones-le (set f j 1) in
        let b = length-set f j 1 in
        let c = more in
        omega arith

    pub put-marked : Sound p h (set f j 1)
    put-marked =
        let c = s.counted in
        let m = more in
        record { room = rw (length-set f j 1) s.room; counted = omega arith; each = λ k b. rw (length-set f j 1) (s.each k b) }

    pub put-fits : h * 8 + 8 ≤ length p
    put-fits =
        let a = below in
        let b = s.counted in
        let c = s.room in
        omega arith

    module _ (p' : List ℕ) (w : Put numbers_of p h j p') where
      inside : h < length (numbers_of p)
      inside =
          let a = put-fits in
          let b = length-numbers p in
          omega arith

      each' : (k : ℕ) → k < h + 1 → get_or (set (numbers_of p) h j) k 0 < length f
      each' =
          below_more (λ (k : ℕ). get_or (set (numbers_of p) h j) k 0 < length f) h (λ k b. rw (get_or-set_other (numbers_of p) h k j 0 (omega arith)) (s.each k b))
          (rw (get_or-set_same (numbers_of p) h j 0 inside) l)

      pub put-new : PutOn (put_one j) p h f p' (h + 1) (set f j 1)
      unfolding put_one
      put-new =
          let c = s.counted in
          let m = more in
          record {
            sound = record {
              room = rw (length-set f j 1, w.size) s.room;
              counted = omega arith;
              each = λ k b. rw (w.is, length-set f j 1) (each' k b);
            };
            is =
                ap (λ (ws : List ℕ). record { pile = stack ws (h + 1); flags = set f j 1 }) w.is
                ∙ ap (λ (ws : List ℕ). record { pile = ws; flags = set f j 1 }) (stack_push (numbers_of p) h j inside)
                ∙ sym (rw (eq-eqb (get_or f j 0) 0 z, put_one));
            balance = omega arith;
            pile = w.size;
            marks = length-set f j 1;
          }

-- ---- a parent

pub chunk-there : {A : Type 0} (o : Option A) (P : A → Type 0) (n : ℕ) → MatchOption o (n ≡ 32 → ⊥) P → n ≡ 32 → IsSome o
chunk-there None P n f e = absurd (f e)
chunk-there (Some x) P n f e = refl

-- item k is a digest
pub digest-long : (ps d : List ℕ) (k : ℕ) → k * 32 + 32 ≤ length ps → d ≡ item_in 32 ps 0 k → length d ≡ 32
unfolding item_in
digest-long ps d k l e = ap length e ∙ length_part ps (0 + k * 32) 32 (omega arith)

module _ (st t : List ℕ) (r : ℕ) (ps : List ℕ) (k : ℕ) (p : List ℕ) (h : ℕ) (f d : List ℕ) (ed : d ≡ item_in 32 ps 0 k) (s : Sound p h f) where
  -- not held in the round
  pub parent-out : count_of t ≤ find r d (held_of t) → PutOn (put_all (open_parents (lasts_of st) (held_of t) r (item_in 32 ps 0 k ∷ []))) p h f p h f
  unfolding open_parents put_all
  parent-out o =
      let e : find r d (held_of t) ≡ find r (item_in 32 ps 0 k) (held_of t) = ap (λ (v : List ℕ). find r v (held_of t)) ed in
      let n : ltb (find r (item_in 32 ps 0 k) (held_of t)) (length (held_of t)) ≡ false = le-ltb (find r (item_in 32 ps 0 k) (held_of t)) (length (held_of t)) (omega (arith, length-held t, e)) in
      put-none (put_all (open_parents (lasts_of st) (held_of t) r (item_in 32 ps 0 k ∷ []))) p h f s (rw (n, open_parents))

  pub parent-none : count_of t ≡ find r d (held_of t) → PutOn (put_all (open_parents (lasts_of st) (held_of t) r (item_in 32 ps 0 k ∷ []))) p h f p h f
  parent-none o = parent-out (omega arith)

  module _ (j : ℕ) (ej : j ≡ find r d (held_of t)) (i : j < count_of t) (b : Bool) (q : b ≡ eqb (get_or (lasts_of st) (cert_at (held_of t) j).origin 0) (cert_at (held_of t) j).round) where
    e : j ≡ find r (item_in 32 ps 0 k) (held_of t)
    e = ej ∙ ap (λ (v : List ℕ). find r v (held_of t)) ed

    in_held : ltb (find r (item_in 32 ps 0 k) (held_of t)) (length (held_of t)) ≡ true
    in_held = lt-ltb (find r (item_in 32 ps 0 k) (held_of t)) (length (held_of t)) (omega (arith, length-held t, e))

    last-is : (c : Bool) → b ≡ c
        → eqb (get_or (lasts_of st) (cert_at (held_of t) (find r (item_in 32 ps 0 k) (held_of t))).origin 0) (cert_at (held_of t) (find r (item_in 32 ps 0 k) (held_of t))).round ≡ c
    last-is c w = rw (← e) (sym q ∙ w)

    -- of its origin's last committed round
    pub parent-last : b ≡ true → PutOn (put_all (open_parents (lasts_of st) (held_of t) r (item_in 32 ps 0 k ∷ []))) p h f p h f
    unfolding open_parents put_all
    parent-last y = put-none (put_all (open_parents (lasts_of st) (held_of t) r (item_in 32 ps 0 k ∷ []))) p h f s (rw (in_held, last-is true y, open_parents))

    pub parent-open : b ≡ false → (p' : List ℕ) (h' : ℕ) (f' : List ℕ) → PutOn (put_one j) p h f p' h' f'
        → PutOn (put_all (open_parents (lasts_of st) (held_of t) r (item_in 32 ps 0 k ∷ []))) p h f p' h' f'
    unfolding open_parents put_all
    parent-open y p' h' f' w =
        record {
          sound = w.sound;
          is = w.is ∙ rw (in_held, last-is false y, open_parents, e);
          balance = w.balance;
          pile = w.pile;
          marks = w.marks;
        }

-- ---- all parents

put-append : (a b : List ℕ) (p : Pile) → put_all (a ++ b) p ≡ put_all b (put_all a p)
unfolding put_all
put-append [] b p = refl
put-append (j ∷ a) b p = put-append a b (put_one j p)

module _ (last : List ℕ) (held : List Cert) (r : ℕ) (d : List ℕ) (ds : List (List ℕ)) where
  open_step : open_parents last held r (d ∷ ds) ≡ open_parents last held r (d ∷ []) ++ open_parents last held r ds
  unfolding open_parents
  open_step = go (ltb (find r d held) (length held)) refl
    where
      on : (c : Bool) → ltb (find r d held) (length held) ≡ true → eqb (get_or last (cert_at held (find r d held)).origin 0) (cert_at held (find r d held)).round ≡ c
          → open_parents last held r (d ∷ ds) ≡ open_parents last held r (d ∷ []) ++ open_parents last held r ds
      on true e f = rw (e, f, open_parents)
      on false e f = rw (e, f, open_parents)

      go : (b : Bool) → ltb (find r d held) (length held) ≡ b → open_parents last held r (d ∷ ds) ≡ open_parents last held r (d ∷ []) ++ open_parents last held r ds
      go false e = rw (e, open_parents)
      go true e = on (eqb (get_or last (cert_at held (find r d held)).origin 0) (cert_at held (find r d held)).round) e refl

-- parents one behind the other, read again as a list
flat_items : (ds : List (List ℕ)) (ps : List ℕ) (m : ℕ) → Sized 32 ds → ps ≡ flat ds → m ≡ length ps / 32 → items 32 ps 0 m ≡ ds
unfolding items
flat_items ds ps m s e em =
    let l : length ps ≡ length ds * 32 = ap length e ∙ length-flat 32 ds s in
    let k : m ≡ length ds = omega arith in
    rw k (ap (λ (v : List ℕ). chunks 32 v (length ds)) (e ∙ sym (append-nil (flat ds))) ∙ chunks-flat 32 ds [] s)

-- the loop over the parents ps of place x, m of them, of round r: what is left to put on gives the whole
pub record Putting (st t : List ℕ) (x : ℕ) (ps : List ℕ) (r m : ℕ) (p₀ : List ℕ) (h₀ : ℕ) (f₀ p : List ℕ) (h : ℕ) (f : List ℕ) (k : ℕ) : Type 0 where
  pub all : length ps ≡ m * 32
  pub same : items 32 ps 0 m ≡ (cert_at (held_of t) x).parents
  pub under : r ≡ (cert_at (held_of t) x).round - 1
  pub sound : Sound p h f
  pub left : put_all (open_parents (lasts_of st) (held_of t) r (drop k (items 32 ps 0 m))) (pile_of p h f) ≡ put_all (open_parents (lasts_of st) (held_of t) r (items 32 ps 0 m)) (pile_of p₀ h₀ f₀)
  pub balance : h + ones f₀ ≡ h₀ + ones f
  pub pile : length p ≡ length p₀
  pub marks : length f ≡ length f₀

pub putting-start : (n : ℕ) (st t : List ℕ) (x : ℕ) (ps : List ℕ) (r m : ℕ) (p : List ℕ) (h : ℕ) (f : List ℕ) → held_shape n t ≡ true → x < count_of t
    → ps ≡ flat (cert_at (held_of t) x).parents → r ≡ (cert_at (held_of t) x).round - 1 → m ≡ length ps / 32 → Sound p h f
    → Putting st t x ps r m p h f p h f 0
putting-start n st t x ps r m p h f s l e er em d =
    let z = parents-sized n t x s l in
    let c : length ps ≡ length (cert_at (held_of t) x).parents * 32 = ap length e ∙ length-flat 32 (cert_at (held_of t) x).parents z in
    record {
      all = omega arith;
      same = flat_items (cert_at (held_of t) x).parents ps m z e em;
      under = er;
      sound = d;
      left = refl;
      balance = refl;
      pile = refl;
      marks = refl;
    }

pub one-back : (k : ℕ) → k + 1 - 1 ≡ k
one-back k = omega arith

module _ (st t : List ℕ) (x : ℕ) (ps : List ℕ) (r m : ℕ) (p₀ : List ℕ) (h₀ : ℕ) (f₀ p : List ℕ) (h : ℕ) (f : List ℕ) (k : ℕ) (u : Putting st t x ps r m p₀ h₀ f₀ p h f k) where
  pub putting-done : m ≤ k → PutOn (put_all (parents_at (state_of st t) x)) p₀ h₀ f₀ p h f
  unfolding parents_at state_of open_parents put_all
  putting-done l =
      let z : drop k (items 32 ps 0 m) ≡ [] = drop_of_length-le (items 32 ps 0 m) {i = k} (omega (arith, length-items 32 ps 0 m)) in
      record {
        sound = u.sound;
        is =
            ap (λ (v : List (List ℕ)). put_all (open_parents (lasts_of st) (held_of t) r v) (pile_of p h f)) (sym z)
            ∙ u.left
            ∙ ap (λ (v : List (List ℕ)). put_all (open_parents (lasts_of st) (held_of t) r v) (pile_of p₀ h₀ f₀)) u.same
            ∙ ap (λ (v : ℕ). put_all (open_parents (lasts_of st) (held_of t) v (cert_at (held_of t) x).parents) (pile_of p₀ h₀ f₀)) u.under;
        balance = u.balance;
        pile = u.pile;
        marks = u.marks;
      }

  pub putting-next : k < m → (p' : List ℕ) (h' : ℕ) (f' : List ℕ) → PutOn (put_all (open_parents (lasts_of st) (held_of t) r (item_in 32 ps 0 k ∷ []))) p h f p' h' f'
      → Putting st t x ps r m p₀ h₀ f₀ p' h' f' (k + 1)
  putting-next l p' h' f' w =
      let ds : List (List ℕ) = items 32 ps 0 m in
      let d : List ℕ = item_in 32 ps 0 k in
      let g : d ≡ get_or ds k [] = item-is 32 ps 0 m (omega (arith, u.all)) k l in
      let q : drop k ds ≡ d ∷ drop (k + 1) ds = drop-cons ds k [] (omega (arith, length-items 32 ps 0 m)) ∙ rw (add-one, ← g) in
      record {
        all = u.all;
        same = u.same;
        under = u.under;
        sound = w.sound;
        left =
            ap (put_all (open_parents (lasts_of st) (held_of t) r (drop (k + 1) ds))) w.is
            ∙ sym (put-append (open_parents (lasts_of st) (held_of t) r (d ∷ [])) (open_parents (lasts_of st) (held_of t) r (drop (k + 1) ds)) (pile_of p h f))
            ∙ ap (λ (v : List ℕ). put_all v (pile_of p h f)) (sym (open_step (lasts_of st) (held_of t) r d (drop (k + 1) ds)))
            ∙ ap (λ (v : List (List ℕ)). put_all (open_parents (lasts_of st) (held_of t) r v) (pile_of p h f)) (sym q)
            ∙ u.left;
        balance = omega (arith, u.balance, w.balance);
        pile = w.pile ∙ u.pile;
        marks = w.marks ∙ u.marks;
      }
