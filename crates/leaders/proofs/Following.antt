-- The front goes one round lower: what it names there is marked, place by place. And its first marks. Assumes nothing.
use mathlib.Core.Path.{◌≡◌, refl, sym, ap, ◌∙◌}
use mathlib.Core.Bool.{Bool, true, false, not, ◌&&◌}
use mathlib.Core.List.{List, [], ◌∷◌, ◌++◌, append_assoc, append-nil}
use Prim.Native.Nat.{ℕ, zero, suc, ◌+◌, ◌-◌, ◌≤◌, ◌<◌}
use native.Mathlib.Numerals.{add-one}
use native.Mathlib.Omega.{arith}
use borrow.Author.Tests.{eq-eqb, ne_eqb, eqb-true, not-true, not-false}
use lib.Dec.{eqb}
use lib.ListN.{length, get_or, set, take, drop, length-set, drop_of_length-le}
use lib.Seq.{drop-cons, take-suc, take-suc-set, drop-set-lt, take_all}
use Rattle.table.specs.Rows.{count_of}
use Rattle.config.proofs.Laws.{both}
use Rattle.consensus.specs.Table.{Cert, cert_at, of_round}
use Rattle.consensus.specs.Leaders.{followed, named}
use Rattle.held.specs.Rows.{held_of}
use Rattle.held.proofs.Laws.{held-step, length-held}
use Rattle.leaders.specs.Fronts.{Follows, Unmarked, front_of, is_front, marked_at}

-- ---- one place

module _ (held : List Cert) (upper i : ℕ) (marks : List ℕ) (x : ℕ) (e : x ≡ (cert_at held i).round) where
  pub mark-other : (x ≡ upper - 1 → ⊥) → marks ≡ marked_at held upper i marks
  unfolding marked_at
  mark-other h = let t : eqb (cert_at held i).round (upper - 1) ≡ false = ne_eqb (cert_at held i).round (upper - 1) (λ z. h (e ∙ z)) in rw (t, marked_at)

  module _ (h : x ≡ upper - 1) (d : List ℕ) (ed : d ≡ (cert_at held i).digest) (b : Bool) (eb : b ≡ named d (front_of upper marks held)) where
    its : eqb (cert_at held i).round (upper - 1) ≡ true
    its = eq-eqb (cert_at held i).round (upper - 1) (sym e ∙ h)

    called : (y : Bool) → b ≡ y → named (cert_at held i).digest (front_of upper marks held) ≡ y
    called y q = sym (eb ∙ ap (λ (v : List ℕ). named v (front_of upper marks held)) ed) ∙ q

    pub mark-not : not b ≡ true → marks ≡ marked_at held upper i marks
    unfolding marked_at
    mark-not q = rw (its, called false (not-true b q), marked_at)

    pub mark-yes : not b ≡ false → set marks i 1 ≡ marked_at held upper i marks
    unfolding marked_at
    mark-yes q = rw (its, called true (not-false b q), marked_at)

-- ---- all places of a round: the ones that the front F names are marked

unfoldable pub mark_named : List Cert → ℕ → List ℕ → List Cert → List ℕ
mark_named F r [] cs = []
mark_named F r (m ∷ ms) [] = m ∷ ms
mark_named F r (m ∷ ms) (c ∷ cs) = elim (eqb c.round r && named c.digest F) [ true ↦ 1 ∷ mark_named F r ms cs | false ↦ m ∷ mark_named F r ms cs ]

marking-end : (F : List Cert) (r : ℕ) (cs : List Cert) → mark_named F r [] cs ≡ []
unfolding mark_named
marking-end F r cs = refl

pub front-off : (q m : ℕ) (c : Cert) → (c.round ≡ q → ⊥) → is_front q m c ≡ false
unfolding is_front
front-off q m c n = go (not (eqb m 0)) refl
  where
    go : (b : Bool) → not (eqb m 0) ≡ b → is_front q m c ≡ false
    go true t = rw (t, ne_eqb c.round q n)
    go false t = rw t

pub front-on : (q : ℕ) (c : Cert) → c.round ≡ q → is_front q 1 c ≡ true
unfolding is_front
front-on q c e = rw (eq-eqb c.round q e)

pub front-clear : (q : ℕ) (c : Cert) → is_front q 0 c ≡ false
unfolding is_front
front-clear q c = refl

-- a front of another round stays
set_other : (q i : ℕ) (ms : List ℕ) (held : List Cert) → ((cert_at held i).round ≡ q → ⊥) → front_of q (set ms i 1) held ≡ front_of q ms held
unfolding front_of cert_at
set_other q i [] held n = refl
set_other q zero (m ∷ ms) [] n = refl
set_other q (suc i) (m ∷ ms) [] n = refl
set_other q zero (m ∷ ms) (c ∷ cs) n = rw (front-off q 1 c n, front-off q m c n, front_of)
set_other q (suc i) (m ∷ ms) (c ∷ cs) n = go (set_other q i ms cs n) (is_front q m c) refl
  where
    go : front_of q (set ms i 1) cs ≡ front_of q ms cs → (b : Bool) → is_front q m c ≡ b → front_of q (m ∷ set ms i 1) (c ∷ cs) ≡ front_of q (m ∷ ms) (c ∷ cs)
    go ih true t = rw (t, front_of) (ap (λ (v : List Cert). c ∷ v) ih)
    go ih false t = rw (t, front_of) ih

marking-other : (F : List Cert) (r q : ℕ) (ms : List ℕ) (held : List Cert) → (r ≡ q → ⊥) → front_of q (mark_named F r ms held) held ≡ front_of q ms held
unfolding mark_named front_of
marking-other F r q [] held n = refl
marking-other F r q (m ∷ ms) [] n = refl
marking-other F r q (m ∷ ms) (c ∷ cs) n =
    go (marking-other F r q ms cs n) (eqb c.round r && named c.digest F) refl (is_front q m c) refl
  where
    go : front_of q (mark_named F r ms cs) cs ≡ front_of q ms cs → (b : Bool) → (eqb c.round r && named c.digest F) ≡ b → (f : Bool) → is_front q m c ≡ f
        → front_of q (mark_named F r (m ∷ ms) (c ∷ cs)) (c ∷ cs) ≡ front_of q (m ∷ ms) (c ∷ cs)
    go ih true t f u =
        let e = eqb-true c.round r (both (eqb c.round r) (named c.digest F) t).0 in
        let o : c.round ≡ q → ⊥ = λ z. n (sym e ∙ z) in
        rw (t, mark_named) (rw (front-off q 1 c o, front-off q m c o, front_of) ih)
    go ih false t true u = rw (t, mark_named) (rw (u, front_of) (ap (λ (v : List Cert). c ∷ v) ih))
    go ih false t false u = rw (t, mark_named) (rw (u, front_of) ih)

cons-not-nil : (c : Cert) (cs : List Cert) → c ∷ cs ≡ [] → ⊥
cons-not-nil c cs e = let z : ◌≡◌ {A = ℕ} 1 0 = ap one e in omega arith
  where
    one : List Cert → ℕ
    one [] = 0
    one (x ∷ xs) = 1

-- the front of this round is what F names
marking-same : (F : List Cert) (r : ℕ) (ms : List ℕ) (held : List Cert) → length ms ≡ length held → front_of r ms held ≡ []
    → front_of r (mark_named F r ms held) held ≡ followed F (of_round r held)
unfolding mark_named front_of followed of_round
marking-same F r [] [] l e = refl
marking-same F r [] (c ∷ cs) l e = absurd (omega arith)
marking-same F r (m ∷ ms) [] l e = absurd (omega arith)
marking-same F r (m ∷ ms) (c ∷ cs) l e = go (marking-same F r ms cs (omega arith)) (is_front r m c) refl (eqb c.round r) refl (named c.digest F) refl e
  where
    go : (front_of r ms cs ≡ [] → front_of r (mark_named F r ms cs) cs ≡ followed F (of_round r cs)) → (f : Bool) → is_front r m c ≡ f → (b : Bool) → eqb c.round r ≡ b
        → (k : Bool) → named c.digest F ≡ k → front_of r (m ∷ ms) (c ∷ cs) ≡ []
        → front_of r (mark_named F r (m ∷ ms) (c ∷ cs)) (c ∷ cs) ≡ followed F (of_round r (c ∷ cs))
    go ih true u b t k w z = absurd (cons-not-nil c (front_of r ms cs) (rw (u, front_of) at z))
    go ih false u true t true w z =
        let o = front-on r c (eqb-true c.round r t) in
        rw (t, w, mark_named, of_round) (rw (o, w, front_of, followed) (ap (λ (v : List Cert). c ∷ v) (ih (rw (u, front_of) at z))))
    go ih false u true t false w z = rw (t, w, mark_named, of_round) (rw (u, w, front_of, followed) (ih (rw (u, front_of) at z)))
    go ih false u false t k w z = rw (t, mark_named, of_round) (rw (u, front_of) (ih (rw (u, front_of) at z)))

-- ---- the loop: marks₀ are the marks before it

pub record Marking (t marks₀ : List ℕ) (upper count : ℕ) (marks : List ℕ) (i : ℕ) : Type 0 where
  pub up : 0 < upper
  pub all : count ≡ count_of t
  pub fits : length marks₀ ≡ count_of t
  pub size : length marks ≡ length marks₀
  pub front : front_of upper marks (held_of t) ≡ front_of upper marks₀ (held_of t)
  pub left : take i marks ++ mark_named (front_of upper marks₀ (held_of t)) (upper - 1) (drop i marks) (drop i (held_of t))
      ≡ mark_named (front_of upper marks₀ (held_of t)) (upper - 1) marks₀ (held_of t)

pub marking-start : (t marks : List ℕ) (upper count : ℕ) → 0 < upper → count ≡ count_of t → length marks ≡ count_of t → Marking t marks upper count marks 0
marking-start t marks upper count u e l = record { up = u; all = e; fits = l; size = refl; front = refl; left = refl }

module _ (t marks₀ : List ℕ) (upper count : ℕ) (marks : List ℕ) (i : ℕ) (M : Marking t marks₀ upper count marks i) where
  pub marking-below : i < count → i < count_of t
  marking-below h = let a = M.all in omega arith

  pub marking-fits : length marks ≡ count_of t
  marking-fits = M.size ∙ M.fits

  abbrev F : List Cert
  F = front_of upper marks₀ (held_of t)

  module _ (h : i < count) where
    row : drop i marks ≡ get_or marks i 0 ∷ drop (i + 1) marks
    row = let a = M.all in let l = marking-fits in rw add-one (drop-cons marks i 0 (omega arith))

    whole : take i marks ++ mark_named F (upper - 1) (get_or marks i 0 ∷ drop (i + 1) marks) (cert_at (held_of t) i ∷ drop (i + 1) (held_of t)) ≡ mark_named F (upper - 1) marks₀ (held_of t)
    whole =
        ap (λ (v : List ℕ). take i marks ++ mark_named F (upper - 1) v (cert_at (held_of t) i ∷ drop (i + 1) (held_of t))) (sym row)
        ∙ ap (λ (v : List Cert). take i marks ++ mark_named F (upper - 1) (drop i marks) v) (sym (held-step t i (marking-below h)))
        ∙ M.left

    abbrev T : Bool
    T = eqb (cert_at (held_of t) i).round (upper - 1) && named (cert_at (held_of t) i).digest (front_of upper marks (held_of t))

    same : (b : Bool) → T ≡ b → (eqb (cert_at (held_of t) i).round (upper - 1) && named (cert_at (held_of t) i).digest F) ≡ b
    same b q = ap (λ (v : List Cert). eqb (cert_at (held_of t) i).round (upper - 1) && named (cert_at (held_of t) i).digest v) (sym M.front) ∙ q

    marked : T ≡ true → Marking t marks₀ upper count (set marks i 1) (i + 1)
    unfolding mark_named
    marked q =
        let a = M.all in
        let l = marking-fits in
        let u = M.up in
        let e : (cert_at (held_of t) i).round ≡ upper - 1 = eqb-true (cert_at (held_of t) i).round (upper - 1) (both (eqb (cert_at (held_of t) i).round (upper - 1)) (named (cert_at (held_of t) i).digest (front_of upper marks (held_of t))) q).0 in
        let R : List ℕ = mark_named F (upper - 1) (drop (i + 1) marks) (drop (i + 1) (held_of t)) in
        let w : take i marks ++ (1 ∷ R) ≡ mark_named F (upper - 1) marks₀ (held_of t) = rw (same true q, mark_named) at whole in
        let hd : take (i + 1) (set marks i 1) ≡ take i marks ++ (1 ∷ []) = rw add-one (take-suc-set marks i 1 (omega arith)) in
        let tl : drop (i + 1) (set marks i 1) ≡ drop (i + 1) marks = drop-set-lt (i + 1) marks i 1 (omega arith) in
        record {
          up = u;
          all = a;
          fits = M.fits;
          size = length-set marks i 1 ∙ M.size;
          front = set_other upper i marks (held_of t) (λ z. omega arith) ∙ M.front;
          left =
              ap (λ (v : List ℕ). take (i + 1) (set marks i 1) ++ mark_named F (upper - 1) v (drop (i + 1) (held_of t))) tl
              ∙ ap (λ (v : List ℕ). v ++ R) hd
              ∙ append_assoc (take i marks) (1 ∷ []) R
              ∙ w;
        }

    passed : T ≡ false → Marking t marks₀ upper count marks (i + 1)
    unfolding mark_named
    passed q =
        let a = M.all in
        let l = marking-fits in
        let R : List ℕ = mark_named F (upper - 1) (drop (i + 1) marks) (drop (i + 1) (held_of t)) in
        let w : take i marks ++ (get_or marks i 0 ∷ R) ≡ mark_named F (upper - 1) marks₀ (held_of t) = rw (same false q, mark_named) at whole in
        let hd : take (i + 1) marks ≡ take i marks ++ (get_or marks i 0 ∷ []) = rw add-one (take-suc marks i 0 (omega arith)) in
        record {
          up = M.up;
          all = a;
          fits = M.fits;
          size = M.size;
          front = M.front;
          left = ap (λ (v : List ℕ). v ++ R) hd ∙ append_assoc (take i marks) (get_or marks i 0 ∷ []) R ∙ w;
        }

    pub marking-next : (after : List ℕ) → after ≡ marked_at (held_of t) upper i marks → Marking t marks₀ upper count after (i + 1)
    unfolding marked_at
    marking-next after e = go T refl
      where
        go : (b : Bool) → T ≡ b → Marking t marks₀ upper count after (i + 1)
        go true q = let z : after ≡ set marks i 1 = e ∙ rw (q, marked_at) in rw z (marked q)
        go false q = let z : after ≡ marks = e ∙ rw (q, marked_at) in rw z (passed q)

  pub marking-done : count ≤ i → Unmarked upper marks₀ (held_of t) → Follows (held_of t) upper marks₀ marks
  unfolding Unmarked
  marking-done h n =
      let a = M.all in
      let l = marking-fits in
      let u = M.up in
      let z : drop i marks ≡ [] = drop_of_length-le marks {i = i} (omega arith) in
      let w : marks ≡ mark_named F (upper - 1) marks₀ (held_of t) =
      sym (append-nil marks)
      ∙ ap (λ (v : List ℕ). v ++ []) (sym (take_all i marks (omega arith)))
      ∙ ap (λ (v : List ℕ). take i marks ++ v) (sym (ap (λ (v : List ℕ). mark_named F (upper - 1) v (drop i (held_of t))) z ∙ marking-end F (upper - 1) (drop i (held_of t))))
      ∙ M.left in
      record {
        front =
            ap (λ (v : List ℕ). front_of (upper - 1) v (held_of t)) w
            ∙ marking-same F (upper - 1) marks₀ (held_of t) (M.fits ∙ sym (length-held t)) (n (upper - 1) (omega arith));
        none = λ r lt. ap (λ (v : List ℕ). front_of r v (held_of t)) w ∙ marking-other F (upper - 1) r marks₀ (held_of t) (λ e. omega arith) ∙ n r (omega arith);
        size = M.size;
      }
