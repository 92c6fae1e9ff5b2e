-- The next candidate by one scan of what is held, in place of going through the candidate rounds one by one. Assumes nothing.
use mathlib.Core.Bool.{Bool, ◌&&◌, false, true}
use mathlib.Core.List.{List, [], ◌∷◌}
use mathlib.Core.Logic.{inl, inr, ⊎_elim}
use mathlib.Core.Path.{◌∙◌, ◌≡◌, ap, refl, subst, sym}
use Prim.Native.Nat.{◌%◌, ◌+◌, ◌-◌, ◌<◌, ◌≤◌, max, suc, zero, ℕ}
use native.Mathlib.Nat.{not-suc-le-zero}
use native.Mathlib.Omega.{arith}
use borrow.Author.Tests.{eq-eqb, eqb-false, eqb-true, le-leb, leb-false, leb-true, ne_eqb}
use lib.Dec.{eqb, leb}
use lib.ListN.{length}
use Rattle.wire.proofs.Laws.{true-not-false}
use Rattle.config.proofs.Laws.{both}
use Rattle.config.specs.Committee.{leader_place}
use Rattle.consensus.specs.Among.{In}
use Rattle.consensus.specs.Candidates.{edition1, edition2, every_second}
use Rattle.consensus.specs.Leaders.{Agreed, Hit, Leaders, absent, by_origin, gap, leader, leaders, leaders_from, link, linked, no_history, present}
use Rattle.consensus.specs.Table.{Cert, of_round}
use Rattle.consensus.proofs.Decide.{absent≢present, leader-is}
use Rattle.consensus.proofs.Editions.{second-fuel}

-- held as its round's leader, at r, r - 2 and so on, not below low
unfoldable pub candidate : Agreed → ℕ → ℕ → Cert → Bool
candidate a low r c = (eqb c.origin (leader_place (length a.stakes) c.round) && eqb (c.round % 2) (r % 2)) && (leb low c.round && leb c.round r)

-- the highest of these rounds, or 0
unfoldable pub next_round : Agreed → ℕ → ℕ → List Cert → ℕ
unfolding candidate
next_round a low r [] = 0
next_round a low r (c ∷ cs) = elim (candidate a low r c) [ true ↦ max c.round (next_round a low r cs) | false ↦ next_round a low r cs ]

pub record Candidate (a : Agreed) (low r : ℕ) (c : Cert) : Type 0 where
  pub leads : c.origin ≡ leader_place (length a.stakes) c.round
  pub even : c.round % 2 ≡ r % 2
  pub floor : low ≤ c.round
  pub roof : c.round ≤ r

pub candidate-is : (a : Agreed) (low r : ℕ) (c : Cert) → candidate a low r c ≡ true → Candidate a low r c
unfolding candidate
candidate-is a low r c e =
    let x = both (eqb c.origin (leader_place (length a.stakes) c.round) && eqb (c.round % 2) (r % 2)) (leb low c.round && leb c.round r) e in
    let y = both (eqb c.origin (leader_place (length a.stakes) c.round)) (eqb (c.round % 2) (r % 2)) x.0 in
    let z = both (leb low c.round) (leb c.round r) x.1 in
    record {
      leads = eqb-true c.origin (leader_place (length a.stakes) c.round) y.0;
      even = eqb-true (c.round % 2) (r % 2) y.1;
      floor = leb-true low c.round z.0;
      roof = leb-true c.round r z.1;
    }

pub candidate-when : (a : Agreed) (low r : ℕ) (c : Cert) → Candidate a low r c → candidate a low r c ≡ true
unfolding candidate
candidate-when a low r c k =
    rw (eq-eqb c.origin (leader_place (length a.stakes) c.round) k.leads, eq-eqb (c.round % 2) (r % 2) k.even, le-leb low c.round k.floor, le-leb c.round r k.roof)

pub next_le : (a : Agreed) (low r : ℕ) (cs : List Cert) → next_round a low r cs ≤ r
unfolding next_round
next_le a low r [] = omega arith
next_le a low r (c ∷ cs) = go (next_le a low r cs) (candidate a low r c) refl
  where
    go : next_round a low r cs ≤ r → (b : Bool) → candidate a low r c ≡ b → next_round a low r (c ∷ cs) ≤ r
    go ih true t = let k = (candidate-is a low r c t).roof in rw (t, next_round) (omega arith)
    go ih false t = rw (t, next_round) ih

pub next-ge : (a : Agreed) (low r : ℕ) (cs : List Cert) (d : Cert) → In d cs → Candidate a low r d → d.round ≤ next_round a low r cs
unfolding next_round
next-ge a low r [] d h k = absurd h
next-ge a low r (c ∷ cs) d h k = go (λ i. next-ge a low r cs d i k) (candidate a low r c) refl h
  where
    go : (In d cs → d.round ≤ next_round a low r cs) → (b : Bool) → candidate a low r c ≡ b → In d (c ∷ cs) → d.round ≤ next_round a low r (c ∷ cs)
    go ih true t (inl z) = let e = ap (λ (v : Cert). v.round) z in rw (t, next_round) (omega arith)
    go ih true t (inr i) = let y = ih i in rw (t, next_round) (omega arith)
    go ih false t (inl z) = absurd (true-not-false (sym (candidate-when a low r c (subst (Candidate a low r) z k)) ∙ t))
    go ih false t (inr i) = rw (t, next_round) (ih i)

-- what it finds is held
pub next-hit : (a : Agreed) (low r : ℕ) (cs : List Cert) → (next_round a low r cs ≡ 0 → ⊥)
    → (d : Cert) × In d cs × Candidate a low r d × (d.round ≡ next_round a low r cs)
unfolding next_round
next-hit a low r [] n = absurd (n refl)
next-hit a low r (c ∷ cs) n = go (next-hit a low r cs) (candidate a low r c) refl n
  where
    Found : ℕ → List Cert → Type 0
    Found q ds = (d : Cert) × In d ds × Candidate a low r d × (d.round ≡ q)

    go₂ : ((next_round a low r cs ≡ 0 → ⊥) → Found (next_round a low r cs) cs) → candidate a low r c ≡ true → (b : Bool) → leb (next_round a low r cs) c.round ≡ b
        → (next_round a low r (c ∷ cs) ≡ 0 → ⊥) → Found (next_round a low r (c ∷ cs)) (c ∷ cs)
    go₂ ih t true l m = let k = leb-true (next_round a low r cs) c.round l in rw (t, next_round) (c, inl refl, candidate-is a low r c t, omega arith)
    go₂ ih t false l m =
        let k = leb-false (next_round a low r cs) c.round l in
        let y = ih (λ z. omega arith) in
        let e = y.3 in
        rw (t, next_round) (y.0, inr y.1, y.2, omega arith)

    go : ((next_round a low r cs ≡ 0 → ⊥) → Found (next_round a low r cs) cs) → (b : Bool) → candidate a low r c ≡ b → (next_round a low r (c ∷ cs) ≡ 0 → ⊥)
        → Found (next_round a low r (c ∷ cs)) (c ∷ cs)
    go ih true t m = go₂ ih t (leb (next_round a low r cs) c.round) refl m
    go ih false t m = let y = ih (rw (t, next_round) at m) in rw (t, next_round) (y.0, inr y.1, y.2, y.3)

-- no leader held at a round

by-none : (o : ℕ) (cs : List Cert) → by_origin o cs ≡ absent → (c : Cert) → In c cs → c.origin ≡ o → ⊥
unfolding by_origin
by-none o [] e c h z = h
by-none o (x ∷ cs) e c h z = go (λ q i. by-none o cs q c i z) (eqb x.origin o) refl e h
  where
    go : (by_origin o cs ≡ absent → In c cs → ⊥) → (b : Bool) → eqb x.origin o ≡ b → by_origin o (x ∷ cs) ≡ absent → In c (x ∷ cs) → ⊥
    go ih true t q i = absent≢present (sym (rw (t, by_origin) at q))
    go ih false t q (inl y) = eqb-false x.origin o t (ap (λ (v : Cert). v.origin) (sym y) ∙ z)
    go ih false t q (inr i) = ih (rw (t, by_origin) at q) i

in-round : (r : ℕ) (cs : List Cert) (c : Cert) → In c cs → c.round ≡ r → In c (of_round r cs)
unfolding of_round
in-round r [] c h z = h
in-round r (x ∷ cs) c h z = go (λ i. in-round r cs c i z) (eqb x.round r) refl h
  where
    go : (In c cs → In c (of_round r cs)) → (b : Bool) → eqb x.round r ≡ b → In c (x ∷ cs) → In c (of_round r (x ∷ cs))
    go ih true t q = rw (t, of_round) (⊎_elim (λ y. inl y) (λ i. inr (ih i)) q)
    go ih false t (inl y) = absurd (eqb-false x.round r t (ap (λ (v : Cert). v.round) (sym y) ∙ z))
    go ih false t (inr i) = rw (t, of_round) (ih i)

pub leader-none : (a : Agreed) (r : ℕ) (held : List Cert) → leader a r held ≡ absent → (c : Cert) → In c held → c.round ≡ r → c.origin ≡ leader_place (length a.stakes) r → ⊥
unfolding leader
leader-none a r held e c h z o = by-none (leader_place (length a.stakes) r) (of_round r held) e c (in-round r held c h z) o

-- a hit's leader is there
pub next-leader : (a : Agreed) (low r q : ℕ) (held : List Cert) → next_round a low r held ≡ q → (q ≡ 0 → ⊥) → (c : Cert) × (leader a q held ≡ present c)
next-leader a low r q held e n = go (leader a q held) refl
  where
    go : (h : Hit) → leader a q held ≡ h → (c : Cert) × (leader a q held ≡ present c)
    go (present c) t = (c, t)
    go absent t =
        let y = next-hit a low r held (λ z. n (sym e ∙ z)) in
        let er : y.0.round ≡ q = y.3 ∙ e in
        absurd (leader-none a q held t y.0 y.1 er (y.2.leads ∙ ap (λ (v : ℕ). leader_place (length a.stakes) v) er))

-- one round down, where no leader is held

same-parity : (r : ℕ) → 2 ≤ r → (r - 2) % 2 ≡ r % 2
same-parity r h = omega arith

closer : (q r : ℕ) → q ≤ r → (q ≡ r → ⊥) → q % 2 ≡ r % 2 → q ≤ r - 2
closer q r h n e = go (eqb q r) refl
  where
    go : (b : Bool) → eqb q r ≡ b → q ≤ r - 2
    go true t = absurd (n (eqb-true q r t))
    go false t = let m = eqb-false q r t in omega arith

next_down : (a : Agreed) (low r : ℕ) → 2 ≤ r → (cs : List Cert) → ((c : Cert) → In c cs → c.round ≡ r → c.origin ≡ leader_place (length a.stakes) r → ⊥)
    → next_round a low r cs ≡ next_round a low (r - 2) cs
unfolding next_round
next_down a low r two [] n = refl
next_down a low r two (c ∷ cs) n = go (next_down a low r two cs (λ d i. n d (inr i))) (candidate a low r c) refl (candidate a low (r - 2) c) refl
  where
    down : Candidate a low r c → Candidate a low (r - 2) c
    down k =
        record {
          leads = k.leads;
          even = k.even ∙ sym (same-parity r two);
          floor = k.floor;
          roof = closer c.round r k.roof (λ z. n c (inl refl) z (k.leads ∙ ap (λ (v : ℕ). leader_place (length a.stakes) v) z)) k.even;
        }

    up : Candidate a low (r - 2) c → Candidate a low r c
    up k = record { leads = k.leads; even = k.even ∙ same-parity r two; floor = k.floor; roof = let y = k.roof in omega arith }

    go : next_round a low r cs ≡ next_round a low (r - 2) cs → (b : Bool) → candidate a low r c ≡ b → (d : Bool) → candidate a low (r - 2) c ≡ d
        → next_round a low r (c ∷ cs) ≡ next_round a low (r - 2) (c ∷ cs)
    go ih true t true u = rw (t, u, next_round) (ap (max c.round) ih)
    go ih true t false u = absurd (true-not-false (sym (candidate-when a low (r - 2) c (down (candidate-is a low r c t))) ∙ u))
    go ih false t true u = absurd (true-not-false (sym (candidate-when a low r c (up (candidate-is a low (r - 2) c u))) ∙ t))
    go ih false t false u = rw (t, u, next_round) ih

next-none : (a : Agreed) (low r : ℕ) (cs : List Cert) → r < low → next_round a low r cs ≡ 0
unfolding next_round
next-none a low r [] h = refl
next-none a low r (c ∷ cs) h = go (next-none a low r cs h) (candidate a low r c) refl
  where
    go : next_round a low r cs ≡ 0 → (b : Bool) → candidate a low r c ≡ b → next_round a low r (c ∷ cs) ≡ 0
    go ih true t = let k = candidate-is a low r c t in let f = k.floor in let g = k.roof in absurd (omega arith)
    go ih false t = rw (t, next_round) ih

-- what is left to do once q is found: nothing, or q and the rounds below it
unfoldable pub after : Agreed → List Cert → ℕ → Cert → List Cert → ℕ → Leaders
unfolding leaders_from every_second
after a held low u us q = elim (eqb q 0) [ true ↦ leaders us | false ↦ leaders_from a held u us (q ∷ every_second q (q - 2) low) ]

-- the jump
pub jump : (a : Agreed) (held : List Cert) (low : ℕ) → 2 ≤ low → (n r : ℕ) → r < n → (u : Cert) (us : List Cert)
    → leaders_from a held u us (every_second n r low) ≡ after a held low u us (next_round a low r held)
unfolding every_second leaders_from after
jump a held low two zero r h u us = absurd (not-suc-le-zero h)
jump a held low two (suc n) r h u us = go (λ l. jump a held low two n (r - 2) (omega arith) u us) (leb low r) refl
  where
    Goal : Type 0
    Goal = leaders_from a held u us (every_second (suc n) r low) ≡ after a held low u us (next_round a low r held)

    IH : Type 0
    IH = low ≤ r → leaders_from a held u us (every_second n (r - 2) low) ≡ after a held low u us (next_round a low (r - 2) held)

    go₂ : IH → leb low r ≡ true → low ≤ r → (k : Hit) → leader a r held ≡ k → Goal
    go₂ ih t l absent e =
        rw (t, e, every_second, leaders_from) (ih l ∙ ap (after a held low u us) (sym (next_down a low r (omega arith) held (leader-none a r held e))))
    go₂ ih t l (present c) e =
        let x = leader-is a r held c e in
        let k : Candidate a low r c =
        record { leads = x.2 ∙ ap (λ (v : ℕ). leader_place (length a.stakes) v) (sym x.1); even = ap (λ (v : ℕ). v % 2) x.1; floor = let y = x.1 in omega arith; roof = let y = x.1 in omega arith } in
        let g = next-ge a low r held c x.0 k in
        let f = next_le a low r held in
        let y = x.1 in
        let q : next_round a low r held ≡ r = omega arith in
        let z : eqb r 0 ≡ false = ne_eqb r 0 (λ w. omega arith) in
        let s : every_second n (r - 2) low ≡ every_second r (r - 2) low = second-fuel n r (r - 2) low two (omega arith) (omega arith) in
        let p : leaders_from a held u us (r ∷ every_second n (r - 2) low) ≡ leaders_from a held u us (r ∷ every_second r (r - 2) low) =
        ap (λ (v : List ℕ). leaders_from a held u us (r ∷ v)) s in
        let m : after a held low u us r ≡ leaders_from a held u us (r ∷ every_second r (r - 2) low) = rw (z, after) in
        let o : every_second (suc n) r low ≡ r ∷ every_second n (r - 2) low = rw (t, every_second) in
        ap (leaders_from a held u us) o ∙ p ∙ sym m ∙ ap (after a held low u us) (sym q)

    go : IH → (b : Bool) → leb low r ≡ b → Goal
    go ih true t = go₂ ih t (leb-true low r t) (leader a r held) refl
    go ih false t =
        let q : next_round a low r held ≡ 0 = next-none a low r held (leb-false low r t) in
        let o : every_second (suc n) r low ≡ [] = rw (t, every_second) in
        ap (leaders_from a held u us) o ∙ sym (ap (after a held low u us) q)

pub scan1 : (a : Agreed) (held : List Cert) (l c : ℕ) → 0 < l → (u : Cert) (us : List Cert)
    → leaders_from a held u us (edition1 l c) ≡ after a held (c + 2) u us (next_round a (c + 2) (l - 1) held)
unfolding edition1
scan1 a held l c h u us = jump a held (c + 2) (omega arith) l (l - 1) (omega arith) u us

pub scan2 : (a : Agreed) (held : List Cert) (l c : ℕ) → 0 < l → (u : Cert) (us : List Cert)
    → leaders_from a held u us (edition2 l c) ≡ after a held (c + 2) u us (next_round a (c + 2) (l - 2) held)
unfolding edition2
scan2 a held l c h u us = jump a held (c + 2) (omega arith) l (l - 2) (omega arith) u us

-- the loop's laws: r is the highest round not yet looked at; each turn scans once
module _ (a : Agreed) (held : List Cert) (low : ℕ) (two : 2 ≤ low) (n r : ℕ) (lt : r < n) (u : Cert) (us : List Cert) where
  pub scan-stop : next_round a low r held ≡ 0 → leaders_from a held u us (every_second n r low) ≡ leaders us
  unfolding after
  scan-stop e = jump a held low two n r lt u us ∙ ap (after a held low u us) e

  found : (q : ℕ) → next_round a low r held ≡ q → (q ≡ 0 → ⊥) → leaders_from a held u us (every_second n r low) ≡ leaders_from a held u us (q ∷ every_second q (q - 2) low)
  unfolding after
  found q e nz = jump a held low two n r lt u us ∙ ap (after a held low u us) e ∙ rw (ne_eqb q 0 nz, after)

  module _ (q : ℕ) (e : next_round a low r held ≡ q) (nz : q ≡ 0 → ⊥) (c : Cert) (h : leader a q held ≡ present c) where
    pub scan-gap : linked (u.round - q) q c.digest (u ∷ []) held ≡ gap → leaders_from a held u us (every_second n r low) ≡ no_history
    unfolding leaders_from
    scan-gap k = found q e nz ∙ rw (h, k, leaders_from)

    pub scan-take : linked (u.round - q) q c.digest (u ∷ []) held ≡ link true
        → leaders_from a held u us (every_second n r low) ≡ leaders_from a held c (c ∷ us) (every_second q (q - 2) low)
    unfolding leaders_from
    scan-take k = found q e nz ∙ rw (h, k, leaders_from)

    pub scan-pass : linked (u.round - q) q c.digest (u ∷ []) held ≡ link false
        → leaders_from a held u us (every_second n r low) ≡ leaders_from a held u us (every_second q (q - 2) low)
    unfolding leaders_from
    scan-pass k = found q e nz ∙ rw (h, k, leaders_from)
