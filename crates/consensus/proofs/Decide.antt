-- Deciding: the leader of a round, and the leaders' order. Assumes nothing.
use mathlib.Core.Bool.{Bool, ◌&&◌, false, true}
use mathlib.Core.List.{List, [], ◌∷◌}
use mathlib.Core.Logic.{inl, inr}
use mathlib.Core.Path.{◌∙◌, ◌≡◌, ap, refl, subst, sym}
use Prim.Native.Nat.{◌%◌, ◌-◌, ◌<◌, ◌≤◌, suc, ℕ}
use native.Mathlib.Omega.{arith}
use borrow.Author.Tests.{eqb-true, leb-true, ltb-false, ltb-true}
use lib.Dec.{eqb, leb, ltb}
use lib.ListN.{length}
use Rattle.config.proofs.Laws.{both}
use Rattle.config.specs.Committee.{leader_place, validity}
use Rattle.consensus.specs.Among.{In}
use Rattle.consensus.specs.Candidates.{Descending, Falling}
use Rattle.consensus.specs.Leaders.{Agreed, Decision, Hit, Leaders, Link, absent, by_origin, decide, gap, leader, leaders, leaders_from, link, linked, missing, no_history, opens, present, quiet, stake_naming, total_stake}
use Rattle.consensus.specs.Table.{Cert, highest, is_empty, of_round}
use Rattle.consensus.proofs.Lists.{of-round}
use Rattle.consensus.proofs.Climb.{Climb, level, step-up}

-- the leader of a round

pub absent≢present : {c : Cert} → absent ≡ present c → ⊥
absent≢present e = let z : ◌≡◌ {A = ℕ} 0 1 = cc in omega arith

pub by-origin : (o : ℕ) (cs : List Cert) (c : Cert) → by_origin o cs ≡ present c → In c cs × (c.origin ≡ o)
unfolding by_origin
by-origin o [] c e = absurd (absent≢present e)
by-origin o (x ∷ cs) c e = go (by-origin o cs c) (eqb x.origin o) refl e
  where
    go : (by_origin o cs ≡ present c → In c cs × (c.origin ≡ o)) → (b : Bool) → eqb x.origin o ≡ b → by_origin o (x ∷ cs) ≡ present c
        → In c (x ∷ cs) × (c.origin ≡ o)
    go ih true t q = let q' : present x ≡ present c = rw (t, by_origin) at q in let z : c ≡ x = cc in (inl z, ap (λ (v : Cert). v.origin) z ∙ eqb-true x.origin o t)
    go ih false t q = let y = ih (rw (t, by_origin) at q) in (inr y.0, y.1)

pub leader-is : (a : Agreed) (r : ℕ) (held : List Cert) (c : Cert) → leader a r held ≡ present c
    → In c held × (c.round ≡ r) × (c.origin ≡ leader_place (length a.stakes) r)
unfolding leader
leader-is a r held c e =
    let y = by-origin (leader_place (length a.stakes) r) (of_round r held) c e in
    let z = of-round r held c y.0 in
    (z.0, z.1, y.1)

-- the leaders: each is held, and higher than those served before it

same-leaders : (held : List Cert) (b : ℕ) (us ls : List Cert) → Climb held b us → leaders us ≡ leaders ls → Climb held b ls
same-leaders held b us ls r e = let q : us ≡ ls = cc in subst (λ (l : List Cert). Climb held b l) q r

lower : (held : List Cert) (b b' : ℕ) (u : Cert) (us : List Cert) → b' < u.round → Climb held b (u ∷ us) → Climb held b' (u ∷ us)
lower held b b' u us lt (step-up _ h l r) = step-up u h lt r

pub rise : (a : Agreed) (held : List Cert) (b : ℕ) (rs : List ℕ) (u : Cert) (us ls : List Cert) → Climb held b (u ∷ us)
    → ((r : ℕ) → In r rs → (b < r) × (r < u.round)) → Descending rs → leaders_from a held u (u ∷ us) rs ≡ leaders ls → Climb held b ls
unfolding leaders_from
rise a held b [] u us ls R m d e = same-leaders held b (u ∷ us) ls R e
rise a held b (r ∷ rs) u us ls R m d e =
    go (rise a held b rs u us ls R (λ q i. m q (inr i)) d.1)
    (λ c R' er. rise a held b rs c (u ∷ us) ls R' (λ q i. ((m q (inr i)).0, rw er (d.0 q i))) d.1)
    (leader a r held) refl e
  where
    go₂ : (leaders_from a held u (u ∷ us) rs ≡ leaders ls → Climb held b ls)
        → ((c : Cert) → Climb held b (c ∷ u ∷ us) → c.round ≡ r → leaders_from a held c (c ∷ u ∷ us) rs ≡ leaders ls → Climb held b ls)
        → (c : Cert) → leader a r held ≡ present c → (k : Link) → linked (u.round - r) r c.digest (u ∷ []) held ≡ k
        → leaders_from a held u (u ∷ us) (r ∷ rs) ≡ leaders ls → Climb held b ls
    go₂ same take c t gap f z = absurd (bad (rw (t, f, leaders_from) at z))
      where
        bad : no_history ≡ leaders ls → ⊥
        bad q = let y : ◌≡◌ {A = ℕ} 0 1 = cc in omega arith
    go₂ same take c t (link true) f z =
        let x = leader-is a r held c t in
        let mr = m r (inl refl) in
        let er : c.round ≡ r = x.1 in
        take c (step-up c x.0 (omega arith) (lower held b c.round u us (omega arith) R)) er (rw (t, f, leaders_from) at z)
    go₂ same take c t (link false) f z = same (rw (t, f, leaders_from) at z)

    go : (leaders_from a held u (u ∷ us) rs ≡ leaders ls → Climb held b ls)
        → ((c : Cert) → Climb held b (c ∷ u ∷ us) → c.round ≡ r → leaders_from a held c (c ∷ u ∷ us) rs ≡ leaders ls → Climb held b ls)
        → (h : Hit) → leader a r held ≡ h → leaders_from a held u (u ∷ us) (r ∷ rs) ≡ leaders ls → Climb held b ls
    go same take absent t z = same (rw (t, leaders_from) at z)
    go same take (present c) t z = go₂ same take c t (linked (u.round - r) r c.digest (u ∷ []) held) refl z

-- what is decided

pub record Opened (a : Agreed) (n : ℕ) (lasts : List ℕ) (held ls : List Cert) : Type 0 where
  pub opener : Cert
  pub holds : In opener held
  pub round : opener.round ≡ n - 3
  pub origin : opener.origin ≡ leader_place (length a.stakes) (n - 3)
  pub above : highest lasts < opener.round
  pub support : validity (total_stake a.stakes) ≤ stake_naming a.stakes opener.digest (of_round (suc opener.round) held)
  pub order : leaders_from a held opener (opener ∷ []) (a.candidates opener.round (highest lasts)) ≡ leaders ls

pub data Decides (a : Agreed) (n : ℕ) (lasts : List ℕ) (held : List Cert) : Decision → Type 0 where
  is-quiet : Decides a n lasts held quiet
  is-missing : Decides a n lasts held missing
  is_open : {ls : List Cert} → Opened a n lasts held ls → Decides a n lasts held (opens ls)

pub decides : (a : Agreed) (n : ℕ) (lasts : List ℕ) (held : List Cert) → Decides a n lasts held (decide a n lasts held)
unfolding decide
decides a n lasts held = go (eqb (n % 2) 1 && leb 5 n && ltb (highest lasts) (n - 3)) refl
  where
    t : Bool
    t = eqb (n % 2) 1 && leb 5 n && ltb (highest lasts) (n - 3)

    Goal : Type 0
    Goal = Decides a n lasts held (decide a n lasts held)

    go₅ : t ≡ true → (l : Cert) → leader a (n - 3) held ≡ present l → is_empty (of_round (n - 2) held) ≡ false
        → ltb (stake_naming a.stakes l.digest (of_round (n - 2) held)) (validity (total_stake a.stakes)) ≡ false
        → (F : Leaders) → leaders_from a held l (l ∷ []) (a.candidates (n - 3) (highest lasts)) ≡ F → Goal
    go₅ t₁ l t₂ t₃ t₄ no_history t₅ = rw (t₁, t₂, t₃, t₄, t₅, decide) is-missing
    go₅ t₁ l t₂ t₃ t₄ (leaders ls) t₅ =
        let x = leader-is a (n - 3) held l t₂ in
        let u = both (eqb (n % 2) 1 && leb 5 n) (ltb (highest lasts) (n - 3)) t₁ in
        let five = leb-true 5 n (both (eqb (n % 2) 1) (leb 5 n) u.0).1 in
        let up : suc l.round ≡ n - 2 = let q = x.1 in omega arith in
        let ab : highest lasts < n - 3 = ltb-true (highest lasts) (n - 3) u.1 in
        let su : validity (total_stake a.stakes) ≤ stake_naming a.stakes l.digest (of_round (n - 2) held) = ltb-false (stake_naming a.stakes l.digest (of_round (n - 2) held)) (validity (total_stake a.stakes)) t₄ in
        rw (t₁, t₂, t₃, t₄, t₅, decide) (is_open {ls = ls} (record {
          opener = l;
          holds = x.0;
          round = x.1;
          origin = x.2;
          above = rw x.1 ab;
          support = rw up su;
          order = subst (λ (k : ℕ). leaders_from a held l (l ∷ []) (a.candidates k (highest lasts)) ≡ leaders ls) (sym x.1) t₅;
        }))

    go₄ : t ≡ true → (l : Cert) → leader a (n - 3) held ≡ present l → is_empty (of_round (n - 2) held) ≡ false
        → (b : Bool) → ltb (stake_naming a.stakes l.digest (of_round (n - 2) held)) (validity (total_stake a.stakes)) ≡ b → Goal
    go₄ t₁ l t₂ t₃ true t₄ = rw (t₁, t₂, t₃, t₄, decide) is-quiet
    go₄ t₁ l t₂ t₃ false t₄ = go₅ t₁ l t₂ t₃ t₄ (leaders_from a held l (l ∷ []) (a.candidates (n - 3) (highest lasts))) refl

    go₃ : t ≡ true → (l : Cert) → leader a (n - 3) held ≡ present l → (b : Bool) → is_empty (of_round (n - 2) held) ≡ b → Goal
    go₃ t₁ l t₂ true t₃ = rw (t₁, t₂, t₃, decide) is-missing
    go₃ t₁ l t₂ false t₃ = go₄ t₁ l t₂ t₃ (ltb (stake_naming a.stakes l.digest (of_round (n - 2) held)) (validity (total_stake a.stakes))) refl

    go₂ : t ≡ true → (h : Hit) → leader a (n - 3) held ≡ h → Goal
    go₂ t₁ absent t₂ = rw (t₁, t₂, decide) is-quiet
    go₂ t₁ (present l) t₂ = go₃ t₁ l t₂ (is_empty (of_round (n - 2) held)) refl

    go : (b : Bool) → t ≡ b → Goal
    go false t₁ = rw (t₁, decide) is-quiet
    go true t₁ = go₂ t₁ (leader a (n - 3) held) refl

-- and so the leaders rise from C
pub opened-rise : (a : Agreed) (n : ℕ) (lasts : List ℕ) (held ls : List Cert) → Falling a.candidates → Opened a n lasts held ls → Climb held (highest lasts) ls
opened-rise a n lasts held ls F o =
    rise a held (highest lasts) (a.candidates o.opener.round (highest lasts)) o.opener [] ls
    (step-up o.opener o.holds o.above level)
    (λ r i. (F.above o.opener.round (highest lasts) r i, F.below o.opener.round (highest lasts) r i))
    (F.falls o.opener.round (highest lasts)) o.order
