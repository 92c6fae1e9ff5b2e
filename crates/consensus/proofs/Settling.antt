-- What is decided before anything is written, case by case in the order of the tests; the lowest held candidate by one scan. Assumes nothing.
use mathlib.Core.Bool.{Bool, ◌&&◌, ◌||◌, false, true}
use mathlib.Core.List.{List, [], ◌∷◌}
use mathlib.Core.Logic.{inl, inr, ⊎_elim}
use mathlib.Core.Path.{◌∙◌, ◌≡◌, ap, refl, subst, sym}
use Prim.Native.Nat.{◌%◌, ◌+◌, ◌-◌, ◌<◌, ◌≤◌, min, suc, zero, ℕ}
use native.Mathlib.Nat.{not-suc-le-zero}
use native.Mathlib.Omega.{arith}
use borrow.Author.Tests.{eq-eqb, eqb-false, eqb-true, le-leb, le-ltb, leb-false, leb-true, lt-leb, lt-ltb, ltb-false, ltb-true, ne_eqb}
use lib.Dec.{eqb, leb, ltb}
use lib.ListN.{length}
use Rattle.wire.proofs.Laws.{true-not-false}
use Rattle.config.specs.Committee.{leader_place, validity}
use Rattle.consensus.specs.Among.{In}
use Rattle.consensus.specs.Candidates.{Falling, edition1, every_second}
use Rattle.consensus.specs.Leaders.{Agreed, Decision, Hit, Leaders, Link, absent, decide, decided, gap, leader, leaders, leaders_from, link, linked, missing, no_history, opens, present, quiet, stake_naming, total_stake}
use Rattle.consensus.specs.Table.{Cert, cert_at, highest, is_empty, of_round}
use Rattle.consensus.proofs.Climb.{Climb}
use Rattle.consensus.proofs.Decide.{Decides, decides, is-missing, is_open, is-quiet, leader-is, opened-rise}
use Rattle.consensus.proofs.Editions.{falling1}
use Rattle.consensus.proofs.Hole.{gap-hole, hole-split, hole_in, is_gap, is_missing, lowest_from, missing-hole}
use Rattle.consensus.proofs.Leading.{Leading, next-roof}
use Rattle.consensus.proofs.Scan.{Candidate, candidate, candidate-is, candidate-when, leader-none, next-hit, next_round}

-- ---- the lowest held candidate's round

-- the lower of two, where 0 is none
unfoldable pub lower_of : ℕ → ℕ → ℕ
lower_of x y = elim (eqb x 0) [ true ↦ y | false ↦ elim (eqb y 0) [ true ↦ x | false ↦ min x y ] ]

pub lower-none : (y : ℕ) → lower_of 0 y ≡ y
unfolding lower_of
lower-none y = refl

pub none-lower : (x : ℕ) → lower_of x 0 ≡ x
unfolding lower_of
none-lower x = go (eqb x 0) refl
  where
    go : (b : Bool) → eqb x 0 ≡ b → lower_of x 0 ≡ x
    go true t = rw (t, lower_of) (sym (eqb-true x 0 t))
    go false t = rw (t, lower_of)

pub lower-both : (x y : ℕ) → (x ≡ 0 → ⊥) → (y ≡ 0 → ⊥) → lower_of x y ≡ min x y
unfolding lower_of
lower-both x y n m = rw (ne_eqb x 0 n, ne_eqb y 0 m, lower_of)

min_assoc : (x y z : ℕ) → min (min x y) z ≡ min x (min y z)
min_assoc x y z = omega arith

pub lower-assoc : (x y z : ℕ) → lower_of (lower_of x y) z ≡ lower_of x (lower_of y z)
lower-assoc x y z = go (eqb x 0) refl (eqb y 0) refl (eqb z 0) refl
  where
    Goal : Type 0
    Goal = lower_of (lower_of x y) z ≡ lower_of x (lower_of y z)

    go : (b : Bool) → eqb x 0 ≡ b → (d : Bool) → eqb y 0 ≡ d → (f : Bool) → eqb z 0 ≡ f → Goal
    go true t d u f w = rw (eqb-true x 0 t) (ap (λ (k : ℕ). lower_of k z) (lower-none y) ∙ sym (lower-none (lower_of y z)))
    go false t true u f w = rw (eqb-true y 0 u) (ap (λ (k : ℕ). lower_of k z) (none-lower x) ∙ sym (ap (lower_of x) (lower-none z)))
    go false t false u true w = rw (eqb-true z 0 w) (none-lower (lower_of x y) ∙ sym (ap (lower_of x) (none-lower y)))
    go false t false u false w =
        let n = eqb-false x 0 t in
        let m = eqb-false y 0 u in
        let k = eqb-false z 0 w in
        ap (λ (v : ℕ). lower_of v z) (lower-both x y n m) ∙ lower-both (min x y) z (λ e. omega arith) k
        ∙ min_assoc x y z ∙ sym (lower-both x (min y z) n (λ e. omega arith)) ∙ sym (ap (lower_of x) (lower-both y z m k))

-- by one scan; 0 where there is none
unfoldable pub lowest_round : Agreed → ℕ → ℕ → List Cert → ℕ
unfolding candidate lower_of
lowest_round a low r [] = 0
lowest_round a low r (c ∷ cs) = elim (candidate a low r c) [ true ↦ lower_of c.round (lowest_round a low r cs) | false ↦ lowest_round a low r cs ]

-- what it finds is held
pub lowest-hit : (a : Agreed) (low r : ℕ) (cs : List Cert) → (lowest_round a low r cs ≡ 0 → ⊥)
    → (d : Cert) × In d cs × Candidate a low r d × (d.round ≡ lowest_round a low r cs)
unfolding lowest_round lower_of
lowest-hit a low r [] n = absurd (n refl)
lowest-hit a low r (c ∷ cs) n = go (lowest-hit a low r cs) (candidate a low r c) refl n
  where
    R : ℕ
    R = lowest_round a low r cs

    Found : ℕ → List Cert → Type 0
    Found q ds = (d : Cert) × In d ds × Candidate a low r d × (d.round ≡ q)

    more : Found R cs → lowest_round a low r (c ∷ cs) ≡ R → Found (lowest_round a low r (c ∷ cs)) (c ∷ cs)
    more y e = (y.0, inr y.1, y.2, y.3 ∙ sym e)

    self : candidate a low r c ≡ true → lowest_round a low r (c ∷ cs) ≡ c.round → Found (lowest_round a low r (c ∷ cs)) (c ∷ cs)
    self t e = (c, inl refl, candidate-is a low r c t, sym e)

    two : ((R ≡ 0 → ⊥) → Found R cs) → candidate a low r c ≡ true → (c.round ≡ 0 → ⊥) → (R ≡ 0 → ⊥) → (b : Bool) → leb c.round R ≡ b
        → Found (lowest_round a low r (c ∷ cs)) (c ∷ cs)
    two ih t x y true l =
        let k = leb-true c.round R l in
        let e : min c.round R ≡ c.round = omega arith in
        self t (rw (t, lowest_round) (lower-both c.round R x y ∙ e))
    two ih t x y false l =
        let k = leb-false c.round R l in
        let e : min c.round R ≡ R = omega arith in
        more (ih y) (rw (t, lowest_round) (lower-both c.round R x y ∙ e))

    go₂ : ((R ≡ 0 → ⊥) → Found R cs) → candidate a low r c ≡ true → (lowest_round a low r (c ∷ cs) ≡ 0 → ⊥)
        → (b : Bool) → eqb c.round 0 ≡ b → (d : Bool) → eqb R 0 ≡ d → Found (lowest_round a low r (c ∷ cs)) (c ∷ cs)
    go₂ ih t m true x d y =
        let e : lowest_round a low r (c ∷ cs) ≡ R = rw (t, lowest_round) (ap (λ (k : ℕ). lower_of k R) (eqb-true c.round 0 x) ∙ lower-none R) in
        more (ih (λ z. m (e ∙ z))) e
    go₂ ih t m false x true y = self t (rw (t, lowest_round) (ap (lower_of c.round) (eqb-true R 0 y) ∙ none-lower c.round))
    go₂ ih t m false x false y = two ih t (eqb-false c.round 0 x) (eqb-false R 0 y) (leb c.round R) refl

    go : ((R ≡ 0 → ⊥) → Found R cs) → (b : Bool) → candidate a low r c ≡ b → (lowest_round a low r (c ∷ cs) ≡ 0 → ⊥)
        → Found (lowest_round a low r (c ∷ cs)) (c ∷ cs)
    go ih true t m = go₂ ih t m (eqb c.round 0) refl (eqb R 0) refl
    go ih false t m = let e : lowest_round a low r (c ∷ cs) ≡ R = rw (t, lowest_round) in more (ih (λ z. m (e ∙ z))) e

lower-left : (x y : ℕ) → (x ≡ 0 → ⊥) → (0 < lower_of x y) × (lower_of x y ≤ x)
unfolding lower_of
lower-left x y n = go (eqb y 0) refl
  where
    go : (b : Bool) → eqb y 0 ≡ b → (0 < lower_of x y) × (lower_of x y ≤ x)
    go true t = rw (ne_eqb x 0 n, t, lower_of) (omega arith, omega arith)
    go false t = let m = eqb-false y 0 t in rw (ne_eqb x 0 n, t, lower_of) (omega arith, omega arith)

lower-right : (x y : ℕ) → (x ≡ 0 → ⊥) → 0 < y → (0 < lower_of x y) × (lower_of x y ≤ y)
lower-right x y n h = let e = lower-both x y n (λ z. omega arith) in (omega arith, omega arith)

lowest-among : (a : Agreed) (low r : ℕ) → 2 ≤ low → (cs : List Cert) (d : Cert) → In d cs → Candidate a low r d
    → (0 < lowest_round a low r cs) × (lowest_round a low r cs ≤ d.round)
unfolding lowest_round
lowest-among a low r two [] d h k = absurd h
lowest-among a low r two (c ∷ cs) d h k = go (λ i. lowest-among a low r two cs d i k) (candidate a low r c) refl h
  where
    R : ℕ
    R = lowest_round a low r cs

    Goal : Type 0
    Goal = (0 < lowest_round a low r (c ∷ cs)) × (lowest_round a low r (c ∷ cs) ≤ d.round)

    some : candidate a low r c ≡ true → c.round ≡ 0 → ⊥
    some t z = let f = (candidate-is a low r c t).floor in omega arith

    go : (In d cs → (0 < R) × (R ≤ d.round)) → (b : Bool) → candidate a low r c ≡ b → In d (c ∷ cs) → Goal
    go ih true t (inl z) =
        let e : d.round ≡ c.round = ap (λ (v : Cert). v.round) z in
        let y = lower-left c.round R (some t) in
        let y₁ = y.1 in
        rw (t, lowest_round) (y.0, omega arith)
    go ih true t (inr i) =
        let x = ih i in
        let y = lower-right c.round R (some t) x.0 in
        let x₁ = x.1 in
        let y₁ = y.1 in
        rw (t, lowest_round) (y.0, omega arith)
    go ih false t (inl z) = absurd (true-not-false (sym (candidate-when a low r c (subst (Candidate a low r) z k)) ∙ t))
    go ih false t (inr i) = rw (t, lowest_round) (ih i)

-- none is lower
pub lowest-least : (a : Agreed) (low r : ℕ) → 2 ≤ low → (cs : List Cert) (d : Cert) → In d cs → Candidate a low r d → lowest_round a low r cs ≤ d.round
lowest-least a low r two cs d h k = (lowest-among a low r two cs d h k).1

pub lowest-some : (a : Agreed) (low r : ℕ) → 2 ≤ low → (cs : List Cert) (d : Cert) → In d cs → Candidate a low r d → lowest_round a low r cs ≡ 0 → ⊥
lowest-some a low r two cs d h k e = let y = (lowest-among a low r two cs d h k).0 in omega arith

pub lowest-floor : (a : Agreed) (low r q : ℕ) (held : List Cert) → q ≡ lowest_round a low r held → (q ≡ 0 → ⊥) → low ≤ q
lowest-floor a low r q held e n = let y = lowest-hit a low r held (λ z. n (e ∙ z)) in let f = y.2.floor in let g = y.3 in omega arith

pub lowest-roof : (a : Agreed) (low r q : ℕ) (held : List Cert) → q ≡ lowest_round a low r held → (q ≡ 0 → ⊥) → q ≤ r
lowest-roof a low r q held e n = let y = lowest-hit a low r held (λ z. n (e ∙ z)) in let f = y.2.roof in let g = y.3 in omega arith

-- ---- it is what the candidate rounds one by one give

same-parity : (r : ℕ) → 2 ≤ r → (r - 2) % 2 ≡ r % 2
same-parity r h = omega arith

closer : (q r : ℕ) → q ≤ r → (q ≡ r → ⊥) → q % 2 ≡ r % 2 → q ≤ r - 2
closer q r h n e = go (eqb q r) refl
  where
    go : (b : Bool) → eqb q r ≡ b → q ≤ r - 2
    go true t = absurd (n (eqb-true q r t))
    go false t = let m = eqb-false q r t in omega arith

-- q, or d where there is none
unfoldable pub or_else : ℕ → ℕ → ℕ
or_else d q = elim (eqb q 0) [ true ↦ d | false ↦ q ]

pub else-none : (d q : ℕ) → q ≡ 0 → or_else d q ≡ d
unfolding or_else
else-none d q e = rw (eq-eqb q 0 e, or_else)

pub else-some : (d q : ℕ) → (q ≡ 0 → ⊥) → or_else d q ≡ q
unfolding or_else
else-some d q n = rw (ne_eqb q 0 n, or_else)

module _ (a : Agreed) (held : List Cert) (low : ℕ) (two : 2 ≤ low) where
  up : (r : ℕ) → 2 ≤ r → (c : Cert) → Candidate a low (r - 2) c → Candidate a low r c
  up r h c k = record { leads = k.leads; even = k.even ∙ same-parity r h; floor = k.floor; roof = let y = k.roof in omega arith }

  down : (r : ℕ) → 2 ≤ r → (c : Cert) → Candidate a low r c → (c.round ≡ r → ⊥) → Candidate a low (r - 2) c
  down r h c k n =
      record {
        leads = k.leads;
        even = k.even ∙ sym (same-parity r h);
        floor = k.floor;
        roof = closer c.round r k.roof n k.even;
      }

  -- where the round's leader is not held
  lowest-down : (r : ℕ) → 2 ≤ r → leader a r held ≡ absent → lowest_round a low r held ≡ lowest_round a low (r - 2) held
  lowest-down r h e = go (eqb x 0) refl (eqb y 0) refl
    where
      x : ℕ
      x = lowest_round a low r held

      y : ℕ
      y = lowest_round a low (r - 2) held

      off : (c : Cert) → In c held → Candidate a low r c → c.round ≡ r → ⊥
      off c i k z = leader-none a r held e c i z (k.leads ∙ ap (λ (v : ℕ). leader_place (length a.stakes) v) z)

      le₁ : (y ≡ 0 → ⊥) → (0 < x) × (x ≤ y)
      le₁ n =
          let d = lowest-hit a low (r - 2) held n in
          let p = lowest-among a low r two held d.0 d.1 (up r h d.0 d.2) in
          let p₁ = p.1 in
          let d₃ = d.3 in
          (p.0, omega arith)

      le₂ : (x ≡ 0 → ⊥) → (0 < y) × (y ≤ x)
      le₂ n =
          let d = lowest-hit a low r held n in
          let p = lowest-among a low (r - 2) two held d.0 d.1 (down r h d.0 d.2 (off d.0 d.1 d.2)) in
          let p₁ = p.1 in
          let d₃ = d.3 in
          (p.0, omega arith)

      go : (b : Bool) → eqb x 0 ≡ b → (d : Bool) → eqb y 0 ≡ d → x ≡ y
      go true t true u = eqb-true x 0 t ∙ sym (eqb-true y 0 u)
      go true t false u = let p = le₁ (eqb-false y 0 u) in let q = eqb-true x 0 t in absurd (omega arith)
      go false t true u = let p = le₂ (eqb-false x 0 t) in let q = eqb-true y 0 u in absurd (omega arith)
      go false t false u = let p = le₁ (eqb-false y 0 u) in let q = le₂ (eqb-false x 0 t) in omega arith

  -- where it is: the lowest of those below, or this one
  lowest-here : (r : ℕ) → 2 ≤ r → (c : Cert) → In c held → Candidate a low r c → c.round ≡ r
      → lowest_round a low r held ≡ or_else r (lowest_round a low (r - 2) held)
  lowest-here r h c i k e = go (eqb y 0) refl (eqb x r) refl
    where
      x : ℕ
      x = lowest_round a low r held

      y : ℕ
      y = lowest_round a low (r - 2) held

      Goal : Type 0
      Goal = x ≡ or_else r y

      self : (0 < x) × (x ≤ c.round)
      self = lowest-among a low r two held c i k

      nz : x ≡ 0 → ⊥
      nz z = let p = self in omega arith

      le₁ : (y ≡ 0 → ⊥) → (x ≤ y) × (y ≤ r - 2)
      le₁ n =
          let d = lowest-hit a low (r - 2) held n in
          let p = (lowest-among a low r two held d.0 d.1 (up r h d.0 d.2)).1 in
          let q = d.2.roof in
          let d₃ = d.3 in
          (omega arith, omega arith)

      le₂ : (x ≡ r → ⊥) → (0 < y) × (y ≤ x)
      le₂ n =
          let d = lowest-hit a low r held nz in
          let p = lowest-among a low (r - 2) two held d.0 d.1 (down r h d.0 d.2 (λ z. n (sym d.3 ∙ z))) in
          let p₁ = p.1 in
          let d₃ = d.3 in
          (p.0, omega arith)

      go : (b : Bool) → eqb y 0 ≡ b → (d : Bool) → eqb x r ≡ d → Goal
      go true t true u = eqb-true x r u ∙ sym (else-none r y (eqb-true y 0 t))
      go true t false u = let p = le₂ (eqb-false x r u) in let q = eqb-true y 0 t in absurd (omega arith)
      go false t true u = let p = le₁ (eqb-false y 0 t) in let q = eqb-true x r u in absurd (omega arith)
      go false t false u = let p = le₁ (eqb-false y 0 t) in let q = le₂ (eqb-false x r u) in let e' : x ≡ y = omega arith in e' ∙ sym (else-some r y (eqb-false y 0 t))

module _ (a : Agreed) (held : List Cert) (low : ℕ) (two : 2 ≤ low) where
  lowest-none : (r : ℕ) → r < low → lowest_round a low r held ≡ 0
  lowest-none r h = go (eqb (lowest_round a low r held) 0) refl
    where
      go : (b : Bool) → eqb (lowest_round a low r held) 0 ≡ b → lowest_round a low r held ≡ 0
      go true t = eqb-true (lowest_round a low r held) 0 t
      go false t =
          let d = lowest-hit a low r held (eqb-false (lowest_round a low r held) 0 t) in
          let f = d.2.floor in
          let g = d.2.roof in
          absurd (omega arith)

  pub lowest-rounds : (n r d : ℕ) → r < n → lowest_from a held d (every_second n r low) ≡ or_else d (lowest_round a low r held)
  unfolding every_second lowest_from
  lowest-rounds zero r d h = absurd (not-suc-le-zero h)
  lowest-rounds (suc n) r d h = go (λ l e. lowest-rounds n (r - 2) e (omega arith)) (leb low r) refl
    where
      IH : Type 0
      IH = low ≤ r → (e : ℕ) → lowest_from a held e (every_second n (r - 2) low) ≡ or_else e (lowest_round a low (r - 2) held)

      Goal : Type 0
      Goal = lowest_from a held d (every_second (suc n) r low) ≡ or_else d (lowest_round a low r held)

      go₂ : IH → leb low r ≡ true → low ≤ r → (k : Hit) → leader a r held ≡ k → Goal
      go₂ ih t l absent e =
          rw (t, e, every_second, lowest_from) (ih l d ∙ ap (or_else d) (sym (lowest-down a held low two r (omega arith) e)))
      go₂ ih t l (present c) e =
          let x = leader-is a r held c e in
          let y : c.round ≡ r = x.1 in
          let k : Candidate a low r c =
          record { leads = x.2 ∙ ap (λ (v : ℕ). leader_place (length a.stakes) v) (sym y); even = ap (λ (v : ℕ). v % 2) y; floor = omega arith; roof = omega arith } in
          let p : lowest_round a low r held ≡ or_else r (lowest_round a low (r - 2) held) = lowest-here a held low two r (omega arith) c x.0 k y in
          let q : or_else d (lowest_round a low r held) ≡ lowest_round a low r held =
          else-some d (lowest_round a low r held) (lowest-some a low r two held c x.0 k) in
          rw (t, e, every_second, lowest_from) (ih l r ∙ sym p ∙ sym q)

      go : IH → (b : Bool) → leb low r ≡ b → Goal
      go ih true t = go₂ ih t (leb-true low r t) (leader a r held) refl
      go ih false t =
          let o : every_second (suc n) r low ≡ [] = rw (t, every_second) in
          ap (lowest_from a held d) o ∙ sym (else-none d (lowest_round a low r held) (lowest-none r (leb-false low r t)))

-- edition 1's candidates
pub lowest1 : (a : Agreed) (held : List Cert) (l c d : ℕ) → 0 < l → lowest_from a held d (edition1 l c) ≡ or_else d (lowest_round a (c + 2) (l - 1) held)
unfolding edition1
lowest1 a held l c d h = lowest-rounds a held (c + 2) (omega arith) l (l - 1) d (omega arith)

-- ---- the decision, test by test; n is the new certificate's round, and L = n - 3

quiet≢opens : {ls : List Cert} → quiet ≡ opens ls → ⊥
quiet≢opens e = let z : ◌≡◌ {A = ℕ} 0 2 = cc in omega arith

missing≢opens : {ls : List Cert} → missing ≡ opens ls → ⊥
missing≢opens e = let z : ◌≡◌ {A = ℕ} 1 2 = cc in omega arith

must-miss : (d : Decision) → is_missing d ≡ true → d ≡ missing
must-miss quiet e = absurd (true-not-false (sym e))
must-miss missing e = refl
must-miss (opens ls) e = absurd (true-not-false (sym e))

no-hole : (r : ℕ) (held : List Cert) → hole_in (r - r) r held ≡ false
unfolding hole_in
no-hole r held = ap (λ (k : ℕ). hole_in k r held) (let z : r - r ≡ 0 = omega arith in z)

module _ (a : Agreed) (n : ℕ) (last : List ℕ) (held : List Cert) where
  shut : (eqb (n % 2) 1 && leb 5 n && ltb (highest last) (n - 3)) ≡ false → decide a n last held ≡ quiet
  unfolding decide
  shut e = rw (e, decide)

  pub decide-even : (n % 2 ≡ 1 → ⊥) → decide a n last held ≡ quiet
  decide-even h = shut (rw (ne_eqb (n % 2) 1 h))

  pub decide-early : n < 5 → decide a n last held ≡ quiet
  decide-early h = shut (go (eqb (n % 2) 1) refl)
    where
      go : (b : Bool) → eqb (n % 2) 1 ≡ b → (eqb (n % 2) 1 && leb 5 n && ltb (highest last) (n - 3)) ≡ false
      go true t = rw (t, lt-leb 5 n h)
      go false t = rw t

  pub decide-old : (top : ℕ) → top ≡ highest last → n - 3 ≤ top → decide a n last held ≡ quiet
  decide-old top et h = shut (go (eqb (n % 2) 1) refl (leb 5 n) refl)
    where
      go : (b : Bool) → eqb (n % 2) 1 ≡ b → (d : Bool) → leb 5 n ≡ d → (eqb (n % 2) 1 && leb 5 n && ltb (highest last) (n - 3)) ≡ false
      go true t true u = rw (t, u, le-ltb (highest last) (n - 3) (rw et at h))
      go true t false u = rw (t, u)
      go false t d u = rw t

  module _ (top : ℕ) (et : top ≡ highest last) (odd : n % 2 ≡ 1) (five : 5 ≤ n) (up : top < n - 3) where
    tried : (eqb (n % 2) 1 && leb 5 n && ltb (highest last) (n - 3)) ≡ true
    tried = rw (eq-eqb (n % 2) 1 odd, le-leb 5 n five, lt-ltb (highest last) (n - 3) (rw et at up))

    pub decide-absent : leader a (n - 3) held ≡ absent → decide a n last held ≡ quiet
    unfolding decide
    decide-absent t = rw (tried, t, decide)

    module _ (l : Cert) (t : leader a (n - 3) held ≡ present l) where
      pub decide-empty : is_empty (of_round (n - 2) held) ≡ true → decide a n last held ≡ missing
      unfolding decide
      decide-empty u = rw (tried, t, u, decide)

      module _ (some : is_empty (of_round (n - 2) held) ≡ false) where
        pub decide-weak : stake_naming a.stakes l.digest (of_round (n - 2) held) < validity (total_stake a.stakes) → decide a n last held ≡ quiet
        unfolding decide
        decide-weak h = rw (tried, t, some, lt-ltb (stake_naming a.stakes l.digest (of_round (n - 2) held)) (validity (total_stake a.stakes)) h, decide)

        module _ (support : validity (total_stake a.stakes) ≤ stake_naming a.stakes l.digest (of_round (n - 2) held)) where
          weak : ltb (stake_naming a.stakes l.digest (of_round (n - 2) held)) (validity (total_stake a.stakes)) ≡ false
          weak = le-ltb (stake_naming a.stakes l.digest (of_round (n - 2) held)) (validity (total_stake a.stakes)) support

          pub decide-leaders : decide a n last held ≡ decided (leaders_from a held l (l ∷ []) (a.candidates (n - 3) (highest last)))
          unfolding decide
          decide-leaders = rw (tried, t, some, weak, decide)

          -- edition 1: the lowest held candidate, and no hole above it
          module _ (E : a.candidates ≡ edition1) (q : ℕ) (eq : q ≡ lowest_round a (top + 2) (n - 4) held) where
            is-low : lowest_from a held (n - 3) (a.candidates (n - 3) (highest last)) ≡ or_else (n - 3) q
            is-low =
                ap (λ (f : ℕ → ℕ → List ℕ). lowest_from a held (n - 3) (f (n - 3) (highest last))) E
                ∙ lowest1 a held (n - 3) (highest last) (n - 3) (omega arith)
                ∙ ap (λ (k : ℕ). or_else (n - 3) (lowest_round a (highest last + 2) k held)) (let z : n - 3 - 1 ≡ n - 4 = omega arith in z)
                ∙ ap (λ (k : ℕ). or_else (n - 3) (lowest_round a (k + 2) (n - 4) held)) (sym et) ∙ ap (or_else (n - 3)) (sym eq)

            tell : is_missing (decide a n last held) ≡ hole_in (n - 3 - or_else (n - 3) q) (or_else (n - 3) q) held
            tell =
                missing-hole a (subst Falling (sym E) falling1) n last held l tried t some weak
                ∙ ap (λ (k : ℕ). hole_in (n - 3 - k) k held) is-low

            opened : is_missing (decide a n last held) ≡ false → (ls : List Cert) × (decide a n last held ≡ opens ls)
            opened m = go (leaders_from a held l (l ∷ []) (a.candidates (n - 3) (highest last))) refl
              where
                go : (k : Leaders) → leaders_from a held l (l ∷ []) (a.candidates (n - 3) (highest last)) ≡ k → (ls : List Cert) × (decide a n last held ≡ opens ls)
                go no_history e = absurd (true-not-false (sym (ap is_missing (decide-leaders ∙ ap decided e)) ∙ m))
                go (leaders ls) e = (ls, decide-leaders ∙ ap decided e)

            pub decide-alone : q ≡ 0 → (ls : List Cert) × (decide a n last held ≡ opens ls)
            decide-alone z =
                let e : or_else (n - 3) q ≡ n - 3 = else-none (n - 3) q z in
                opened (tell ∙ ap (λ (k : ℕ). hole_in (n - 3 - k) k held) e ∙ no-hole (n - 3) held)

            pub decide-hole : (q ≡ 0 → ⊥) → hole_in (n - 3 - q) q held ≡ true → decide a n last held ≡ missing
            decide-hole nz h =
                must-miss (decide a n last held) (tell ∙ ap (λ (k : ℕ). hole_in (n - 3 - k) k held) (else-some (n - 3) q nz) ∙ h)

            pub decide-whole : (q ≡ 0 → ⊥) → hole_in (n - 3 - q) q held ≡ false → (ls : List Cert) × (decide a n last held ≡ opens ls)
            decide-whole nz h = opened (tell ∙ ap (λ (k : ℕ). hole_in (n - 3 - k) k held) (else-some (n - 3) q nz) ∙ h)

-- ---- those taken are their rounds' leaders

lead-self : (a : Agreed) (r : ℕ) (held : List Cert) (c : Cert) → leader a r held ≡ present c → leader a c.round held ≡ present c
lead-self a r held c t = ap (λ (k : ℕ). leader a k held) (leader-is a r held c t).1 ∙ t

pub leaders-lead : (a : Agreed) (held : List Cert) (rs : List ℕ) (u : Cert) (us ls : List Cert) → ((c : Cert) → In c us → leader a c.round held ≡ present c)
    → leaders_from a held u us rs ≡ leaders ls → (c : Cert) → In c ls → leader a c.round held ≡ present c
unfolding leaders_from
leaders-lead a held [] u us ls m e c i = let z : us ≡ ls = cc in m c (subst (λ (v : List Cert). In c v) (sym z) i)
leaders-lead a held (r ∷ rs) u us ls m e c i = go (λ v vs m' e'. leaders-lead a held rs v vs ls m' e' c i) (leader a r held) refl e
  where
    Leads : List Cert → Type 0
    Leads vs = (d : Cert) → In d vs → leader a d.round held ≡ present d

    IH : Type 0
    IH = (v : Cert) (vs : List Cert) → Leads vs → leaders_from a held v vs rs ≡ leaders ls → leader a c.round held ≡ present c

    go₂ : IH → (x : Cert) → leader a r held ≡ present x → (k : Link) → linked (u.round - r) r x.digest (u ∷ []) held ≡ k
        → leaders_from a held u us (r ∷ rs) ≡ leaders ls → leader a c.round held ≡ present c
    go₂ ih x t gap f z = absurd (bad (rw (t, f, leaders_from) at z))
      where
        bad : no_history ≡ leaders ls → ⊥
        bad q = let y : ◌≡◌ {A = ℕ} 0 1 = cc in omega arith
    go₂ ih x t (link true) f z =
        ih x (x ∷ us) (λ d j. ⊎_elim (λ y. subst (λ (v : Cert). leader a v.round held ≡ present v) (sym y) (lead-self a r held x t)) (λ k. m d k) j)
        (rw (t, f, leaders_from) at z)
    go₂ ih x t (link false) f z = ih u us m (rw (t, f, leaders_from) at z)

    go : IH → (h : Hit) → leader a r held ≡ h → leaders_from a held u us (r ∷ rs) ≡ leaders ls → leader a c.round held ≡ present c
    go ih absent t z = ih u us m (rw (t, leaders_from) at z)
    go ih (present x) t z = go₂ ih x t (linked (u.round - r) r x.digest (u ∷ []) held) refl z

-- and some are
leaders-some : (a : Agreed) (held : List Cert) (rs : List ℕ) (u : Cert) (us ls : List Cert) → (us ≡ [] → ⊥) → leaders_from a held u us rs ≡ leaders ls → ls ≡ [] → ⊥
unfolding leaders_from
leaders-some a held [] u us ls m e z = let y : us ≡ ls = cc in m (y ∙ z)
leaders-some a held (r ∷ rs) u us ls m e z = go (λ v vs n d. leaders-some a held rs v vs ls n d z) (leader a r held) refl e
  where
    IH : Type 0
    IH = (v : Cert) (vs : List Cert) → (vs ≡ [] → ⊥) → leaders_from a held v vs rs ≡ leaders ls → ⊥

    go₂ : IH → (x : Cert) → leader a r held ≡ present x → (k : Link) → linked (u.round - r) r x.digest (u ∷ []) held ≡ k
        → leaders_from a held u us (r ∷ rs) ≡ leaders ls → ⊥
    go₂ ih x t gap f q = bad (rw (t, f, leaders_from) at q)
      where
        bad : no_history ≡ leaders ls → ⊥
        bad p = let y : ◌≡◌ {A = ℕ} 0 1 = cc in omega arith
    go₂ ih x t (link true) f q = ih x (x ∷ us) (λ y. let w : ◌≡◌ {A = ℕ} (suc (length us)) 0 = ap length y in omega arith) (rw (t, f, leaders_from) at q)
    go₂ ih x t (link false) f q = ih u us m (rw (t, f, leaders_from) at q)

    go : IH → (h : Hit) → leader a r held ≡ h → leaders_from a held u us (r ∷ rs) ≡ leaders ls → ⊥
    go ih absent t q = ih u us m (rw (t, leaders_from) at q)
    go ih (present x) t q = go₂ ih x t (linked (u.round - r) r x.digest (u ∷ []) held) refl q

-- ---- what a decision that opens says, whatever tests were made

pub record Opening (a : Agreed) (n : ℕ) (last : List ℕ) (held ls : List Cert) : Type 0 where
  pub odd : n % 2 ≡ 1
  pub five : 5 ≤ n
  pub above : highest last < n - 3
  pub opener : Cert
  pub leads : leader a (n - 3) held ≡ present opener
  pub some : is_empty (of_round (n - 2) held) ≡ false
  pub support : validity (total_stake a.stakes) ≤ stake_naming a.stakes opener.digest (of_round (n - 2) held)
  pub order : leaders_from a held opener (opener ∷ []) (a.candidates (n - 3) (highest last)) ≡ leaders ls

module _ (a : Agreed) (n : ℕ) (last : List ℕ) (held ls : List Cert) (e : decide a n last held ≡ opens ls) where
  module _ (odd : n % 2 ≡ 1) (five : 5 ≤ n) (up : highest last < n - 3) where
    staked : (l : Cert) → leader a (n - 3) held ≡ present l → is_empty (of_round (n - 2) held) ≡ false
        → (b : Bool) → ltb (stake_naming a.stakes l.digest (of_round (n - 2) held)) (validity (total_stake a.stakes)) ≡ b → Opening a n last held ls
    staked l t u true w =
        absurd (quiet≢opens (sym (decide-weak a n last held (highest last) refl odd five up l t u
        (ltb-true (stake_naming a.stakes l.digest (of_round (n - 2) held)) (validity (total_stake a.stakes)) w)) ∙ e))
    staked l t u false w =
        let k : validity (total_stake a.stakes) ≤ stake_naming a.stakes l.digest (of_round (n - 2) held) =
        ltb-false (stake_naming a.stakes l.digest (of_round (n - 2) held)) (validity (total_stake a.stakes)) w in
        record {
          odd = odd;
          five = five;
          above = up;
          opener = l;
          leads = t;
          some = u;
          support = k;
          order = was (leaders_from a held l (l ∷ []) (a.candidates (n - 3) (highest last))) (sym (decide-leaders a n last held (highest last) refl odd five up l t u k) ∙ e);
        }
      where
        was : (k : Leaders) → decided k ≡ opens ls → k ≡ leaders ls
        was no_history q = absurd (missing≢opens q)
        was (leaders ks) q = let z : ks ≡ ls = cc in ap leaders z

    held_next : (l : Cert) → leader a (n - 3) held ≡ present l → (b : Bool) → is_empty (of_round (n - 2) held) ≡ b → Opening a n last held ls
    held_next l t true u = absurd (missing≢opens (sym (decide-empty a n last held (highest last) refl odd five up l t u) ∙ e))
    held_next l t false u = staked l t u (ltb (stake_naming a.stakes l.digest (of_round (n - 2) held)) (validity (total_stake a.stakes))) refl

    led : (h : Hit) → leader a (n - 3) held ≡ h → Opening a n last held ls
    led absent t = absurd (quiet≢opens (sym (decide-absent a n last held (highest last) refl odd five up t) ∙ e))
    led (present l) t = held_next l t (is_empty (of_round (n - 2) held)) refl

  pub opening : Opening a n last held ls
  opening = go (eqb (n % 2) 1) refl (leb 5 n) refl (ltb (highest last) (n - 3)) refl
    where
      go : (b : Bool) → eqb (n % 2) 1 ≡ b → (d : Bool) → leb 5 n ≡ d → (f : Bool) → ltb (highest last) (n - 3) ≡ f → Opening a n last held ls
      go true t true u true w = led (eqb-true (n % 2) 1 t) (leb-true 5 n u) (ltb-true (highest last) (n - 3) w) (leader a (n - 3) held) refl
      go true t true u false w = absurd (quiet≢opens (sym (decide-old a n last held (highest last) refl (ltb-false (highest last) (n - 3) w)) ∙ e))
      go true t false u f w = absurd (quiet≢opens (sym (decide-early a n last held (leb-false 5 n u)) ∙ e))
      go false t d u f w = absurd (quiet≢opens (sym (decide-even a n last held (eqb-false (n % 2) 1 t)) ∙ e))

  -- its leaders, from the opening one
  pub opens-order : (top : ℕ) → top ≡ highest last → a.candidates ≡ edition1 → (l : Cert) → leader a (n - 3) held ≡ present l
      → leaders_from a held l (l ∷ []) (edition1 (n - 3) top) ≡ leaders ls
  opens-order top et E l t =
      let o = opening in
      let q : present o.opener ≡ present l = sym o.leads ∙ t in
      let z : o.opener ≡ l = cc in
      let p : leaders_from a held l (l ∷ []) (a.candidates (n - 3) (highest last)) ≡ leaders ls = subst (λ (v : Cert). leaders_from a held v (v ∷ []) (a.candidates (n - 3) (highest last)) ≡ leaders ls) z o.order in
      ap (λ (k : ℕ). leaders_from a held l (l ∷ []) (edition1 (n - 3) k)) et
      ∙ ap (λ (f : ℕ → ℕ → List ℕ). leaders_from a held l (l ∷ []) (f (n - 3) (highest last))) (sym E) ∙ p

  pub opens-rise : a.candidates ≡ edition1 → Climb held (highest last) ls
  opens-rise E = rises (decides a n last held)
    where
      rises : Decides a n last held (decide a n last held) → Climb held (highest last) ls
      rises d = go (opens ls) (subst (Decides a n last held) e d) refl
        where
          go : (v : Decision) → Decides a n last held v → v ≡ opens ls → Climb held (highest last) ls
          go quiet is-quiet z = absurd (quiet≢opens z)
          go missing is-missing z = absurd (missing≢opens z)
          go (opens ks) (is_open o) z = let y : ks ≡ ls = cc in subst (Climb held (highest last)) y (opened-rise a n last held ks (subst Falling (sym E) falling1) o)

  -- each is its round's leader
  pub opens-leads : (c : Cert) → In c ls → leader a c.round held ≡ present c
  opens-leads =
      let o = opening in
      leaders-lead a held (a.candidates (n - 3) (highest last)) o.opener (o.opener ∷ []) ls
      (λ c i. ⊎_elim (λ z. subst (λ (v : Cert). leader a v.round held ≡ present v) (sym z) (lead-self a (n - 3) held o.opener o.leads)) (λ j. absurd j) i) o.order

  pub opens-some : ls ≡ [] → ⊥
  opens-some =
      let o = opening in
      leaders-some a held (a.candidates (n - 3) (highest last)) o.opener (o.opener ∷ []) ls (λ z. let y : ◌≡◌ {A = ℕ} 1 0 = ap length z in omega arith) o.order

  -- and no round from the lowest held candidate's up to L - 1 is empty
  pub opens-whole : (top : ℕ) → top ≡ highest last → a.candidates ≡ edition1 → (q : ℕ) → q ≡ lowest_round a (top + 2) (n - 4) held → (q ≡ 0 → ⊥)
      → hole_in (n - 3 - q) q held ≡ false
  opens-whole top et E q eq nz = go (hole_in (n - 3 - q) q held) refl
    where
      o : Opening a n last held ls
      o = opening

      go : (b : Bool) → hole_in (n - 3 - q) q held ≡ b → hole_in (n - 3 - q) q held ≡ false
      go true h =
          absurd (missing≢opens (sym (decide-hole a n last held top et o.odd o.five (rw et o.above) o.opener o.leads o.some o.support E q eq nz h) ∙ e))
      go false h = h

-- ---- no gap afterwards

or_left : (x y : Bool) → (x || y) ≡ false → x ≡ false
or_left true y e = e
or_left false y e = refl

or_right : (x y : Bool) → (x || y) ≡ false → y ≡ false
or_right true y e = absurd (true-not-false e)
or_right false y e = e

-- a part of rounds without a hole has none
pub hole-within : (held : List Cert) (q u c u' : ℕ) → hole_in (u - q) q held ≡ false → q ≤ c → c ≤ u' → u' ≤ u → hole_in (u' - c) c held ≡ false
hole-within held q u c u' e h k m =
    let p : hole_in (u - c) c held ≡ false =
    or_left (hole_in (u - c) c held) (hole_in (c - q) q held) (sym (hole-split held (u - c) (u - q) (c - q) q c (omega arith) (omega arith)) ∙ e) in
    or_right (hole_in (u - u') u' held) (hole_in (u' - c) c held) (sym (hole-split held (u - u') (u - c) (u' - c) c u' (omega arith) (omega arith)) ∙ p)

-- and a link test over it meets no gap
pub linked-link : (n r : ℕ) (d : List ℕ) (front held : List Cert) → hole_in n r held ≡ false → (b : Bool) × (linked n r d front held ≡ link b)
linked-link n r d front held e = go (linked n r d front held) refl
  where
    go : (k : Link) → linked n r d front held ≡ k → (b : Bool) × (linked n r d front held ≡ link b)
    go gap t = absurd (true-not-false (sym (ap is_gap t) ∙ gap-hole n r d front held ∙ e))
    go (link b) t = (b, t)

-- a later hit is no lower than the lowest
pub lowest-next : (a : Agreed) (held : List Cert) (low r₀ r q₀ q : ℕ) → 2 ≤ low → q₀ ≡ lowest_round a low r₀ held → r ≤ r₀ → r % 2 ≡ r₀ % 2
    → q ≡ next_round a low r held → (q ≡ 0 → ⊥) → q₀ ≤ q
lowest-next a held low r₀ r q₀ q two e₀ le p e n =
    let d = next-hit a low r held (λ z. n (e ∙ z)) in
    let k = d.2 in
    let f = k.roof in
    let y = lowest-least a low r₀ two held d.0 d.1 (record { leads = k.leads; even = k.even ∙ p; floor = k.floor; roof = omega arith }) in
    let g = d.3 in
    omega arith

-- where there is a hit, there is a lowest
pub lowest-there : (a : Agreed) (held : List Cert) (low r₀ r q₀ q : ℕ) → 2 ≤ low → q₀ ≡ lowest_round a low r₀ held → r ≤ r₀ → r % 2 ≡ r₀ % 2
    → q ≡ next_round a low r held → (q ≡ 0 → ⊥) → q₀ ≡ 0 → ⊥
lowest-there a held low r₀ r q₀ q two e₀ le p e n z =
    let d = next-hit a low r held (λ w. n (e ∙ w)) in
    let k = d.2 in
    let f = k.roof in
    lowest-some a low r₀ two held d.0 d.1 (record { leads = k.leads; even = k.even ∙ p; floor = k.floor; roof = omega arith }) (sym e₀ ∙ z)

-- in the loop of earlier leaders: what its link tests visit has no hole
module _ (a : Agreed) (held : List Cert) (low r₀ : ℕ) (whole : Leaders) (r v : ℕ) (ws : List ℕ) (L : Leading a held low r₀ whole r v ws)
    (q₀ q : ℕ) (e₀ : q₀ ≡ lowest_round a low r₀ held) (e : q ≡ next_round a low r held) (n : q ≡ 0 → ⊥) where
  pub lead-lowest : q₀ ≡ 0 → ⊥
  lead-lowest = lowest-there a held low r₀ r q₀ q L.two e₀ L.less L.even e n

  pub lead-whole : (l : ℕ) → l ≡ suc r₀ → hole_in (l - q₀) q₀ held ≡ false → hole_in ((cert_at held v).round - q) q held ≡ false
  lead-whole l el h =
      let x = lowest-next a held low r₀ r q₀ q L.two e₀ L.less L.even e n in
      let y = next-roof a held low r q e in
      let z = L.under in
      let w = L.most in
      hole-within held q₀ l q (cert_at held v).round h x (omega arith) (omega arith)

-- as the code has it: once the decision opens, no link test of the loop meets a gap
pub lead-safe : (a : Agreed) (n : ℕ) (last : List ℕ) (held ls : List Cert) → decide a n last held ≡ opens ls → a.candidates ≡ edition1
    → (top low r₀ : ℕ) → top ≡ highest last → low ≡ top + 2 → r₀ ≡ n - 4 → (whole : Leaders) (r v : ℕ) (ws : List ℕ) → Leading a held low r₀ whole r v ws
    → (q : ℕ) → q ≡ next_round a low r held → (q ≡ 0 → ⊥) → hole_in ((cert_at held v).round - q) q held ≡ false
lead-safe a n last held ls o E top low r₀ et el er whole r v ws L q e z =
    let q₀ : ℕ = lowest_round a low r₀ held in
    let f = (opening a n last held ls o).five in
    let g : q₀ ≡ lowest_round a (top + 2) (n - 4) held = ap (λ (k : ℕ). lowest_round a k r₀ held) el ∙ ap (λ (k : ℕ). lowest_round a (top + 2) k held) er in
    let nz : q₀ ≡ 0 → ⊥ = lead-lowest a held low r₀ whole r v ws L q₀ q refl e z in
    lead-whole a held low r₀ whole r v ws L q₀ q refl e z (n - 3) (omega arith) (opens-whole a n last held ls o top et E q₀ g nz)
