-- The walk: the top taken off, listed, and its parents put on. Assumes nothing.
use mathlib.Core.Path.{◌≡◌, refl, sym, ap, ◌∙◌}
use mathlib.Core.Bool.{Bool, true, false}
use mathlib.Core.List.{List, [], ◌∷◌, ◌++◌, append-nil, append_assoc}
use Prim.Native.Nat.{ℕ, zero, suc, ◌+◌, ◌-◌, ◌*◌, ◌≤◌, ◌<◌}
use native.Mathlib.Numerals.{add-one}
use native.Mathlib.Omega.{arith}
use borrow.Author.Tests.{eq-eqb, lt-ltb, le-ltb}
use lib.Dec.{ltb}
use lib.ListN.{length, get_or, set, take, replicate, drop, length-replicate, get_or-replicate}
use lib.Seq.{take-suc-set, drop-length}
use Rattle.wire.specs.Bytes.{splice}
use Rattle.table.specs.Rows.{count_of}
use Rattle.room.specs.Numbers.{numbers_of, Put}
use Rattle.room.proofs.Laws.{length-numbers}
use Rattle.consensus.specs.Table.{Cert, cert_at, highest}
use Rattle.consensus.specs.Walk.{Pile, put_one, put_all, parents_at, walk, walk_from}
use Rattle.consensus.proofs.Marks.{ones, ones-le, ones_none}
use Rattle.consensus.proofs.Sorting.{near}
use Rattle.held.specs.Rows.{held_of, lasts_of, state_of}
use Rattle.held.proofs.Laws.{length-held}
use Rattle.dag.specs.Steps.{stack, pile_of, Sound, PutOn, KeptNear, Followed, Walked}

-- ---- one is listed, unless it is deep

near_step : (depth top : ℕ) (held : List Cert) (x : ℕ) (js : List ℕ) → near depth top held (x ∷ js) ≡ near depth top held (x ∷ []) ++ near depth top held js
unfolding near
near_step depth top held x js = go (ltb ((cert_at held x).round + depth) top) refl
  where
    go : (b : Bool) → ltb ((cert_at held x).round + depth) top ≡ b → near depth top held (x ∷ js) ≡ near depth top held (x ∷ []) ++ near depth top held js
    go true e = rw (e, near)
    go false e = rw (e, near)

module _ (t : List ℕ) (depth top x : ℕ) (o : List ℕ) (m r : ℕ) (e : r ≡ (cert_at (held_of t) x).round) where
  pub near-deep : r + depth < top → KeptNear (held_of t) depth top x o m o m
  unfolding near
  near-deep l =
      record {
        is = sym (append-nil (take m (numbers_of o))) ∙ rw (lt-ltb ((cert_at (held_of t) x).round + depth) top (rw (← e) l), near);
        most = omega arith;
        size = refl;
      }

  pub near-kept : top ≤ r + depth → m * 8 + 8 ≤ length o → (o' : List ℕ) → Put numbers_of o m x o' → KeptNear (held_of t) depth top x o m o' (m + 1)
  unfolding near
  near-kept l f o' w =
      let i : m < length (numbers_of o) = omega (arith, length-numbers o) in
      record {
        is = rw (w.is, add-one, take-suc-set (numbers_of o) m x i, le-ltb ((cert_at (held_of t) x).round + depth) top (rw (← e) l), near);
        most = omega arith;
        size = w.size;
      }

-- ---- a turn of the walk

walk_step : (parents : ℕ → List ℕ) (k : ℕ) (p : List ℕ) (h : ℕ) (f : List ℕ)
    → walk parents (suc k) (pile_of p (suc h) f) ≡ get_or (numbers_of p) h 0 ∷ walk parents k (put_all (parents (get_or (numbers_of p) h 0)) (pile_of p h f))
unfolding walk stack
walk_step parents k p h f = refl

walk_end : (parents : ℕ → List ℕ) (k : ℕ) (p f : List ℕ) → walk parents k (pile_of p 0 f) ≡ []
unfolding walk stack
walk_end parents zero p f = refl
walk_end parents (suc k) p f = refl

-- what is listed, and then the walk of what is on the pile, is the whole; each turn marks as many as it puts on
pub record Going (st t : List ℕ) (depth top : ℕ) (p₀ : List ℕ) (h₀ : ℕ) (f₀ o₀ p f o : List ℕ) (h m : ℕ) : Type 0 where
  pub high : top ≡ highest (lasts_of st)
  pub places : length f ≡ count_of t
  pub sound : Sound p h f
  pub count : m + h ≤ ones f
  pub space : count_of t * 8 ≤ length o
  pub left :
      take m (numbers_of o) ++ near depth top (held_of t) (walk (parents_at (state_of st t)) (count_of t + h - ones f) (pile_of p h f))
      ≡ near depth top (held_of t) (walk (parents_at (state_of st t)) (count_of t + h₀ - ones f₀) (pile_of p₀ h₀ f₀))
  pub pile : length p ≡ length p₀
  pub marks : length f ≡ length f₀
  pub out : length o ≡ length o₀

pub going_start : (st t : List ℕ) (depth top : ℕ) (p : List ℕ) (h : ℕ) (f o : List ℕ) → top ≡ highest (lasts_of st) → length f ≡ count_of t → Sound p h f → count_of t * 8 ≤ length o
    → Going st t depth top p h f o p f o h 0
going_start st t depth top p h f o e l s r =
    let c = s.counted in
    record { high = e; places = l; sound = s; count = omega arith; space = r; left = refl; pile = refl; marks = refl; out = refl }

module _ (st t : List ℕ) (depth top : ℕ) (p₀ : List ℕ) (h₀ : ℕ) (f₀ o₀ p f o : List ℕ) (h m : ℕ) (g : Going st t depth top p₀ h₀ f₀ o₀ p f o h m) where
  going-most : m + h ≤ count_of t
  going-most = omega (arith, ones-le f, g.count, g.places)

  pub going_done : h ≤ 0 → Followed st t depth m p₀ h₀ p f₀ f o₀ o
  unfolding near
  going_done l =
      let z : h ≡ 0 = omega arith in
      let w : walk (parents_at (state_of st t)) (count_of t + h - ones f) (pile_of p h f) ≡ [] =
      ap (λ (v : ℕ). walk (parents_at (state_of st t)) (count_of t + h - ones f) (pile_of p v f)) z ∙ walk_end (parents_at (state_of st t)) (count_of t + h - ones f) p f in
      record {
        is =
            sym (append-nil (take m (numbers_of o)))
            ∙ ap (λ (v : List ℕ). take m (numbers_of o) ++ near depth top (held_of t) v) (sym w)
            ∙ g.left
            ∙ ap (λ (v : ℕ). near depth v (held_of t) (walk (parents_at (state_of st t)) (count_of t + h₀ - ones f₀) (pile_of p₀ h₀ f₀))) g.high;
        few = omega (arith, going-most);
        pile = g.pile;
        marks = g.marks;
        out = g.out;
      }

  module _ (l : 0 < h) where
    pub going-fits : (h - 1) * 8 + 8 ≤ length p
    going-fits = omega (arith, going-most, g.sound.room, g.places)

    pub going-room : m * 8 + 8 ≤ length o
    going-room = omega (arith, going-most, g.space)

    pub going-sound : Sound p (h - 1) f
    going-sound =
        let s = g.sound in
        record { room = s.room; counted = omega (arith, s.counted); each = λ k b. s.each k (omega arith) }

    module _ (x : ℕ) (e : x ≡ get_or (numbers_of p) (h - 1) 0) where
      pub going-below : x < count_of t
      going-below = rw (e, ← g.places) (g.sound.each (h - 1) (omega arith))

      module _ (o' : List ℕ) (m' : ℕ) (k : KeptNear (held_of t) depth top x o m o' m') (p' : List ℕ) (h' : ℕ) (f' : List ℕ) (w : PutOn (put_all (parents_at (state_of st t) x)) p (h - 1) f p' h' f') where
        -- the turns left
        pub going_less : count_of t + h' - ones f' < count_of t + h - ones f
        going_less = omega (arith, going-most, ones-le f, g.places, w.balance)

        turn : walk (parents_at (state_of st t)) (count_of t + h - ones f) (pile_of p h f) ≡ x ∷ walk (parents_at (state_of st t)) (count_of t + h' - ones f') (pile_of p' h' f')
        turn =
            let a : count_of t + h - ones f ≡ suc (count_of t + h' - ones f') = omega (arith, going-most, ones-le f, g.places, w.balance) in
            let b : h ≡ suc (h - 1) = omega arith in
            ap (λ (v : ℕ). walk (parents_at (state_of st t)) v (pile_of p h f)) a
            ∙ ap (λ (v : ℕ). walk (parents_at (state_of st t)) (suc (count_of t + h' - ones f')) (pile_of p v f)) b
            ∙ walk_step (parents_at (state_of st t)) (count_of t + h' - ones f') p (h - 1) f
            ∙ ap (λ (v : ℕ). v ∷ walk (parents_at (state_of st t)) (count_of t + h' - ones f') (put_all (parents_at (state_of st t) v) (pile_of p (h - 1) f))) (sym e)
            ∙ ap (λ (v : Pile). x ∷ walk (parents_at (state_of st t)) (count_of t + h' - ones f') v) (sym w.is)

        pub going_next : Going st t depth top p₀ h₀ f₀ o₀ p' f' o' h' m'
        going_next =
            let ws : List ℕ = walk (parents_at (state_of st t)) (count_of t + h' - ones f') (pile_of p' h' f') in
            record {
              high = g.high;
              places = w.marks ∙ g.places;
              sound = w.sound;
              count = omega (arith, g.count, w.balance, k.most);
              space = rw k.size g.space;
              left =
                  ap (λ (v : List ℕ). v ++ near depth top (held_of t) ws) k.is
                  ∙ append_assoc (take m (numbers_of o)) (near depth top (held_of t) (x ∷ [])) (near depth top (held_of t) ws)
                  ∙ ap (λ (v : List ℕ). take m (numbers_of o) ++ v) (sym (near_step depth top (held_of t) x ws))
                  ∙ ap (λ (v : List ℕ). take m (numbers_of o) ++ near depth top (held_of t) v) (sym turn)
                  ∙ g.left;
              pile = w.pile ∙ g.pile;
              marks = w.marks ∙ g.marks;
              out = k.size ∙ g.out;
            }

-- ---- the start

cleared : (f f' : List ℕ) → f' ≡ splice f 0 (replicate (length f) 0) → f' ≡ replicate (length f) 0
unfolding splice
cleared f f' e =
    let z : 0 + length (replicate {A = ℕ} (length f) 0) ≡ length f = omega (arith, length-replicate {A = ℕ} (length f) 0) in
    let y : drop (0 + length (replicate {A = ℕ} (length f) 0)) f ≡ [] = ap (λ (k : ℕ). drop k f) z ∙ drop-length f in
    e ∙ ap (λ (v : List ℕ). replicate (length f) 0 ++ v) y ∙ append-nil (replicate (length f) 0)

module _ (t p f f₁ : List ℕ) (leader : ℕ) (e : f₁ ≡ splice f 0 (replicate (length f) 0)) (lf : length f ≡ count_of t) where
  start-size : length f₁ ≡ count_of t
  start-size = ap length (cleared f f₁ e) ∙ length-replicate (length f) 0 ∙ lf

  module _ (b : leader < count_of t) (p' : List ℕ) (h : ℕ) (f' : List ℕ) (w : PutOn (put_one leader) p 0 f₁ p' h f') where
    zero-there : get_or f₁ leader 0 ≡ 0
    zero-there = rw (cleared f f₁ e) (get_or-replicate (length f) leader 0 0 (rw lf b))

    pile-is : pile_of p' h f' ≡ record { pile = leader ∷ []; flags = set (replicate (count_of t) 0) leader 1 }
    unfolding put_one stack
    pile-is =
        let q : put_one leader (pile_of p 0 f₁) ≡ record { pile = leader ∷ []; flags = set f₁ leader 1 } = rw (eq-eqb (get_or f₁ leader 0) 0 zero-there, put_one) in
        w.is
        ∙ q
        ∙ ap (λ (v : List ℕ). record { pile = leader ∷ []; flags = set v leader 1 }) (cleared f f₁ e ∙ ap (λ (k : ℕ). replicate k 0) lf)

    turns : count_of t + h - ones f' ≡ count_of t
    turns =
        let a : ones f₁ ≡ 0 = ap ones (cleared f f₁ e) ∙ ones_none (length f) in
        omega (arith, w.balance)

    pub start-near : (st : List ℕ) (depth r : ℕ) (p'' f'' o o' : List ℕ) → Followed st t depth r p' h p'' f' f'' o o' → take r (numbers_of o') ≡ near depth (highest (lasts_of st)) (held_of t) (walk_from (state_of st t) leader)
    unfolding walk_from state_of
    start-near st depth r p'' f'' o o' u =
        u.is
        ∙ ap (λ (v : ℕ). near depth (highest (lasts_of st)) (held_of t) (walk (parents_at (state_of st t)) v (pile_of p' h f'))) (turns ∙ sym (length-held t))
        ∙ ap (λ (v : Pile). near depth (highest (lasts_of st)) (held_of t) (walk (parents_at (state_of st t)) (length (held_of t)) v)) pile-is
        ∙ ap (λ (k : ℕ). near depth (highest (lasts_of st)) (held_of t) (walk (parents_at (state_of st t)) (length (held_of t)) (record { pile = leader ∷ []; flags = set (replicate k 0) leader 1 }))) (sym (length-held t))

    pub start-walked : (st : List ℕ) (depth r : ℕ) (p'' f'' o o' : List ℕ) → Followed st t depth r p' h p'' f' f'' o o' → Walked st t depth leader r p p'' f f'' o o'
    start-walked st depth r p'' f'' o o' u =
        record {
          is = start-near st depth r p'' f'' o o' u;
          few = u.few;
          pile = u.pile ∙ w.pile;
          marks = u.marks ∙ w.marks ∙ start-size ∙ sym lf;
          out = u.out;
        }
