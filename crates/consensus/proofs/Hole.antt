-- After the stake sum, 13 holds exactly when some round from the lowest held candidate's up to L - 1 holds nothing. Assumes nothing.
use mathlib.Core.Bool.{Bool, ◌&&◌, ◌||◌, false, true}
use mathlib.Core.List.{List, [], ◌∷◌}
use mathlib.Core.Logic.{◌⊎◌, inl, inr}
use mathlib.Core.Path.{◌∙◌, ◌≡◌, ap, refl, sym}
use Prim.Native.Nat.{◌%◌, ◌+◌, ◌-◌, ◌<◌, ◌≤◌, suc, zero, ℕ}
use native.Mathlib.Omega.{arith}
use lib.Dec.{eqb, leb, ltb}
use Rattle.config.specs.Committee.{validity}
use Rattle.consensus.specs.Among.{In}
use Rattle.consensus.specs.Candidates.{Descending, Falling}
use Rattle.consensus.specs.Leaders.{Agreed, Decision, Hit, Leaders, Link, absent, decide, decided, followed, gap, leader, leaders, leaders_from, link, linked, missing, no_history, opens, present, quiet, stake_naming, total_stake}
use Rattle.consensus.specs.Table.{Cert, highest, is_empty, of_round}
use Rattle.consensus.proofs.Decide.{leader-is}

-- one of the n rounds from r up holds nothing
unfoldable pub hole_in : ℕ → ℕ → List Cert → Bool
unfolding of_round
hole_in zero r held = false
hole_in (suc n) r held = elim (is_empty (of_round (r + n) held)) [ true ↦ true | false ↦ hole_in n r held ]

hole-none : (r : ℕ) (held : List Cert) → hole_in 0 r held ≡ false
unfolding hole_in
hole-none r held = refl

-- the lowest held candidate's round, or d
unfoldable pub lowest_from : Agreed → List Cert → ℕ → List ℕ → ℕ
unfolding leader
lowest_from a held d [] = d
lowest_from a held d (r ∷ rs) = elim (leader a r held) [ absent ↦ lowest_from a held d rs | present c ↦ lowest_from a held r rs ]

abbrev pub is_gap : Link → Bool
is_gap gap = true
is_gap (link b) = false

abbrev pub lacks_history : Leaders → Bool
lacks_history no_history = true
lacks_history (leaders ls) = false

abbrev pub is_missing : Decision → Bool
is_missing quiet = false
is_missing missing = true
is_missing (opens ls) = false

-- a link test meets a gap exactly when there is one, whatever it follows
pub gap-hole : (n r : ℕ) (d : List ℕ) (front held : List Cert) → is_gap (linked n r d front held) ≡ hole_in n r held
unfolding linked hole_in
gap-hole zero r d front held = refl
gap-hole (suc n) r d front held = go (λ f. gap-hole n r d f held) (is_empty (of_round (r + n) held)) refl
  where
    go : ((f : List Cert) → is_gap (linked n r d f held) ≡ hole_in n r held) → (b : Bool) → is_empty (of_round (r + n) held) ≡ b
        → is_gap (linked (suc n) r d front held) ≡ hole_in (suc n) r held
    go ih true t = rw (t, linked, hole_in)
    go ih false t = rw (t, linked, hole_in) (ih (followed front (of_round (r + n) held)))

pub hole-split : (held : List Cert) (m n k r q : ℕ) → n ≡ m + k → q ≡ r + k → hole_in n r held ≡ (hole_in m q held || hole_in k r held)
unfolding hole_in
hole-split held zero n k r q e f = let z : n ≡ k = omega arith in ap (λ (v : ℕ). hole_in v r held) z
hole-split held (suc m) zero k r q e f = absurd (omega arith)
hole-split held (suc m) (suc n) k r q e f =
    go (hole-split held m n k r q (omega arith) f) (is_empty (of_round (r + n) held)) refl
  where
    same : of_round (r + n) held ≡ of_round (q + m) held
    same = ap (λ (v : ℕ). of_round v held) (let z : r + n ≡ q + m = omega arith in z)

    go : hole_in n r held ≡ (hole_in m q held || hole_in k r held) → (b : Bool) → is_empty (of_round (r + n) held) ≡ b
        → hole_in (suc n) r held ≡ (hole_in (suc m) q held || hole_in k r held)
    go ih true t = let u : is_empty (of_round (q + m) held) ≡ true = ap is_empty (sym same) ∙ t in rw (t, u, hole_in)
    go ih false t = let u : is_empty (of_round (q + m) held) ≡ false = ap is_empty (sym same) ∙ t in rw (t, u, hole_in) ih

-- the default matters only where none is held
lowest-or : (a : Agreed) (held : List Cert) (rs : List ℕ) → ((d : ℕ) → lowest_from a held d rs ≡ d) ⊎ ((d d' : ℕ) → lowest_from a held d rs ≡ lowest_from a held d' rs)
unfolding lowest_from
lowest-or a held [] = inl (λ d. refl)
lowest-or a held (r ∷ rs) = go (lowest-or a held rs) (leader a r held) refl
  where
    go : ((d : ℕ) → lowest_from a held d rs ≡ d) ⊎ ((d d' : ℕ) → lowest_from a held d rs ≡ lowest_from a held d' rs) → (h : Hit) → leader a r held ≡ h
        → ((d : ℕ) → lowest_from a held d (r ∷ rs) ≡ d) ⊎ ((d d' : ℕ) → lowest_from a held d (r ∷ rs) ≡ lowest_from a held d' (r ∷ rs))
    go (inl f) absent t = inl (λ d. rw (t, lowest_from) (f d))
    go (inr f) absent t = inr (λ d d'. rw (t, lowest_from) (f d d'))
    go ih (present c) t = inr (λ d d'. rw (t, lowest_from))

lowest-le : (a : Agreed) (held : List Cert) (rs : List ℕ) (d : ℕ) → ((r : ℕ) → In r rs → r < d) → Descending rs → lowest_from a held d rs ≤ d
unfolding lowest_from
lowest-le a held [] d m f = omega arith
lowest-le a held (r ∷ rs) d m f =
    go (lowest-le a held rs d (λ q i. m q (inr i)) f.1) (lowest-le a held rs r f.0 f.1) (m r (inl refl)) (leader a r held) refl
  where
    go : lowest_from a held d rs ≤ d → lowest_from a held r rs ≤ r → r < d → (h : Hit) → leader a r held ≡ h → lowest_from a held d (r ∷ rs) ≤ d
    go p q l absent t = rw (t, lowest_from) p
    go p q l (present c) t = rw (t, lowest_from) (omega arith)

pub history-hole : (a : Agreed) (held : List Cert) (rs : List ℕ) (u : Cert) (us : List Cert) → ((r : ℕ) → In r rs → r < u.round) → Descending rs
    → lacks_history (leaders_from a held u us rs) ≡ hole_in (u.round - lowest_from a held u.round rs) (lowest_from a held u.round rs) held
unfolding leaders_from lowest_from
history-hole a held [] u us m f = sym (ap (λ (v : ℕ). hole_in v u.round held) (let z : u.round - u.round ≡ 0 = omega arith in z) ∙ hole-none u.round held)
history-hole a held (r ∷ rs) u us m f =
    go (λ us'. history-hole a held rs u us' (λ q i. m q (inr i)) f.1)
    (λ c e us'. history-hole a held rs c us' (λ q i. let y = f.0 q i in omega arith) f.1)
    (leader a r held) refl
  where
    R : ℕ
    R = lowest_from a held r rs

    H : ℕ → ℕ → Bool
    H d lo = hole_in (d - lo) lo held

    Goal : Type 0
    Goal = lacks_history (leaders_from a held u us (r ∷ rs)) ≡ H u.round (lowest_from a held u.round (r ∷ rs))

    rle : R ≤ r
    rle = lowest-le a held rs r f.0 f.1

    ru : r < u.round
    ru = m r (inl refl)

    -- from the lowest up: those above r, and those below it
    split : H u.round R ≡ (H u.round r || H r R)
    split = let p = rle in let q = ru in hole-split held (u.round - r) (u.round - R) (r - R) R r (omega arith) (omega arith)

    go₂ : ((us' : List Cert) → lacks_history (leaders_from a held u us' rs) ≡ H u.round (lowest_from a held u.round rs))
        → ((c : Cert) → c.round ≡ r → (us' : List Cert) → lacks_history (leaders_from a held c us' rs) ≡ H c.round (lowest_from a held c.round rs))
        → (c : Cert) → leader a r held ≡ present c → (k : Link) → linked (u.round - r) r c.digest (u ∷ []) held ≡ k
        → lacks_history (leaders_from a held u us (r ∷ rs)) ≡ H u.round R
    go₂ same take c t gap l =
        let h : H u.round r ≡ true = sym (gap-hole (u.round - r) r c.digest (u ∷ []) held) ∙ ap is_gap l in
        rw (t, l, leaders_from) (sym (split ∙ ap (λ (b : Bool). b || H r R) h))
    go₂ same take c t (link true) l =
        let h : H u.round r ≡ false = sym (gap-hole (u.round - r) r c.digest (u ∷ []) held) ∙ ap is_gap l in
        let e : c.round ≡ r = (leader-is a r held c t).1 in
        let p : lacks_history (leaders_from a held c (c ∷ us) rs) ≡ H r R =
        take c e (c ∷ us) ∙ ap (λ (v : ℕ). H v (lowest_from a held v rs)) e in
        rw (t, l, leaders_from) (p ∙ sym (split ∙ ap (λ (b : Bool). b || H r R) h))
    go₂ same take c t (link false) l =
        let h : H u.round r ≡ false = sym (gap-hole (u.round - r) r c.digest (u ∷ []) held) ∙ ap is_gap l in
        rw (t, l, leaders_from) (same us ∙ stay h (lowest-or a held rs))
      where
        none : H u.round u.round ≡ false
        none = ap (λ (v : ℕ). hole_in v u.round held) (let z : u.round - u.round ≡ 0 = omega arith in z) ∙ hole-none u.round held

        stay : H u.round r ≡ false → ((d : ℕ) → lowest_from a held d rs ≡ d) ⊎ ((d d' : ℕ) → lowest_from a held d rs ≡ lowest_from a held d' rs)
            → H u.round (lowest_from a held u.round rs) ≡ H u.round R
        stay h (inl g) = ap (H u.round) (g u.round) ∙ none ∙ sym h ∙ sym (ap (H u.round) (g r))
        stay h (inr g) = ap (H u.round) (g u.round r)

    go : ((us' : List Cert) → lacks_history (leaders_from a held u us' rs) ≡ H u.round (lowest_from a held u.round rs))
        → ((c : Cert) → c.round ≡ r → (us' : List Cert) → lacks_history (leaders_from a held c us' rs) ≡ H c.round (lowest_from a held c.round rs))
        → (k : Hit) → leader a r held ≡ k → Goal
    go same take absent t = rw (t, leaders_from, lowest_from) (same us)
    go same take (present c) t =
        let e : lowest_from a held u.round (r ∷ rs) ≡ R = rw (t, lowest_from) in
        go₂ same take c t (linked (u.round - r) r c.digest (u ∷ []) held) refl ∙ sym (ap (H u.round) e)

-- and so for the decision, once the stake sum has passed
pub missing-hole : (a : Agreed) → Falling a.candidates → (n : ℕ) (last : List ℕ) (held : List Cert) (l : Cert)
    → (eqb (n % 2) 1 && leb 5 n && ltb (highest last) (n - 3)) ≡ true → leader a (n - 3) held ≡ present l → is_empty (of_round (n - 2) held) ≡ false
    → ltb (stake_naming a.stakes l.digest (of_round (n - 2) held)) (validity (total_stake a.stakes)) ≡ false
    → let low : ℕ = lowest_from a held (n - 3) (a.candidates (n - 3) (highest last)) in is_missing (decide a n last held) ≡ hole_in (n - 3 - low) low held
unfolding decide
missing-hole a F n last held l t₁ t₂ t₃ t₄ = rw (t₁, t₂, t₃, t₄, decide) (go (leaders_from a held l (l ∷ []) rs) refl)
  where
    rs : List ℕ
    rs = a.candidates (n - 3) (highest last)

    e : l.round ≡ n - 3
    e = (leader-is a (n - 3) held l t₂).1

    main : lacks_history (leaders_from a held l (l ∷ []) rs) ≡ hole_in (n - 3 - lowest_from a held (n - 3) rs) (lowest_from a held (n - 3) rs) held
    main =
        history-hole a held rs l (l ∷ []) (λ r i. let y = F.below (n - 3) (highest last) r i in let z = e in omega arith) (F.falls (n - 3) (highest last))
        ∙ ap (λ (v : ℕ). hole_in (v - lowest_from a held v rs) (lowest_from a held v rs) held) e

    go : (L : Leaders) → leaders_from a held l (l ∷ []) rs ≡ L
        → is_missing (decided (leaders_from a held l (l ∷ []) rs)) ≡ hole_in (n - 3 - lowest_from a held (n - 3) rs) (lowest_from a held (n - 3) rs) held
    go no_history q = rw q (sym (ap lacks_history q) ∙ main)
    go (leaders ls) q = rw q (sym (ap lacks_history q) ∙ main)
