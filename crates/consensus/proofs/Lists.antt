-- Being in lists, and places. Assumes nothing.
use mathlib.Core.Bool.{Bool, false, true}
use mathlib.Core.List.{List, [], ◌++◌, ◌∷◌}
use mathlib.Core.Logic.{◌⊎◌, inl, inr, ⊎_elim}
use mathlib.Core.Path.{◌∙◌, ◌≡◌, ap, refl, sym}
use Prim.Native.Nat.{◌<◌, suc, suc-le-suc, zero, ℕ}
use native.Mathlib.Nat.{le_of_suc-le-suc, not-suc-le-zero}
use native.Mathlib.Omega.{arith}
use borrow.Author.Tests.{eqb-true}
use lib.Dec.{eqb}
use lib.ListN.{length}
use Rattle.consensus.specs.Among.{In, Once}
use Rattle.consensus.specs.Table.{Cert, cert_at, of_round}

-- the examples come first: a wrong definition is refused by a case, where there is one

module _ {A : Type 0} where
  pub in_app : (a b : List A) (c : A) → In c (a ++ b) → In c a ⊎ In c b
  in_app [] b c h = inr h
  in_app (x ∷ a) b c h = ⊎_elim (λ z. inl (inl z)) (λ i. ⊎_elim (λ l. inl (inr l)) (λ r. inr r) (in_app a b c i)) h

  pub app-in : (a b : List A) (c : A) → In c a ⊎ In c b → In c (a ++ b)
  app-in [] b c h = ⊎_elim (λ z. absurd z) (λ r. r) h
  app-in (x ∷ a) b c h = ⊎_elim (λ l. ⊎_elim (λ z. inl z) (λ i. inr (app-in a b c (inl i))) l) (λ r. inr (app-in a b c (inr r))) h

  pub in_left : (a b : List A) (c : A) → In c a → In c (a ++ b)
  in_left a b c h = app-in a b c (inl h)

  pub in_right : (a b : List A) (c : A) → In c b → In c (a ++ b)
  in_right a b c h = app-in a b c (inr h)

  pub once-app : (a b : List A) → Once a → Once b → ((c : A) → In c a → In c b → ⊥) → Once (a ++ b)
  once-app [] b oa ob n = ob
  once-app (x ∷ a) b oa ob n =
      ((λ h. ⊎_elim (λ l. oa.0 l) (λ r. n x (inl refl) r) (in_app a b x h)), once-app a b oa.1 ob (λ c l r. n c (inr l) r))

-- places

pub at_in : (cs : List Cert) (i : ℕ) → i < length cs → In (cert_at cs i) cs
unfolding cert_at
at_in [] i h = absurd (not-suc-le-zero h)
at_in (c ∷ cs) zero h = inl refl
at_in (c ∷ cs) (suc i) h = inr (at_in cs i (le_of_suc-le-suc h))

pub in-at : (cs : List Cert) (c : Cert) → In c cs → (i : ℕ) × (i < length cs) × (cert_at cs i ≡ c)
unfolding cert_at
in-at [] c h = absurd h
in-at (x ∷ cs) c h = ⊎_elim (λ e. (0, omega arith, sym e)) (λ i. let y = in-at cs c i in (suc y.0, suc-le-suc y.1, y.2)) h

-- no two have one digest
abbrev pub Distinct : List Cert → Type 0
Distinct [] = Unit {0}
Distinct (x ∷ xs) = ((c : Cert) → In c xs → x.digest ≡ c.digest → ⊥) × Distinct xs

pub same-digest : (cs : List Cert) → Distinct cs → (c d : Cert) → In c cs → In d cs → c.digest ≡ d.digest → c ≡ d
same-digest [] u c d hc hd e = absurd hc
same-digest (x ∷ cs) u c d (inl p) (inl q) e = p ∙ sym q
same-digest (x ∷ cs) u c d (inl p) (inr q) e = absurd (u.0 d q (ap (λ (v : Cert). v.digest) (sym p) ∙ e))
same-digest (x ∷ cs) u c d (inr p) (inl q) e = absurd (u.0 c p (sym (e ∙ ap (λ (v : Cert). v.digest) q)))
same-digest (x ∷ cs) u c d (inr p) (inr q) e = same-digest cs u.1 c d p q e

pub at-inj : (cs : List Cert) → Distinct cs → (i j : ℕ) → i < length cs → j < length cs → (cert_at cs i).digest ≡ (cert_at cs j).digest → i ≡ j
unfolding cert_at
at-inj [] u i j hi hj e = absurd (not-suc-le-zero hi)
at-inj (x ∷ cs) u zero zero hi hj e = refl
at-inj (x ∷ cs) u zero (suc j) hi hj e = absurd (u.0 (cert_at cs j) (at_in cs j (le_of_suc-le-suc hj)) e)
at-inj (x ∷ cs) u (suc i) zero hi hj e = absurd (u.0 (cert_at cs i) (at_in cs i (le_of_suc-le-suc hi)) (sym e))
at-inj (x ∷ cs) u (suc i) (suc j) hi hj e = ap suc (at-inj cs u.1 i j (le_of_suc-le-suc hi) (le_of_suc-le-suc hj) e)

-- those of a round
pub of-round : (r : ℕ) (cs : List Cert) (c : Cert) → In c (of_round r cs) → In c cs × (c.round ≡ r)
unfolding of_round
of-round r [] c h = absurd h
of-round r (x ∷ cs) c h = go (of-round r cs c) (eqb x.round r) refl h
  where
    go : (In c (of_round r cs) → In c cs × (c.round ≡ r)) → (b : Bool) → eqb x.round r ≡ b → In c (of_round r (x ∷ cs)) → In c (x ∷ cs) × (c.round ≡ r)
    go ih true t q =
        ⊎_elim (λ e. (inl e, ap (λ (v : Cert). v.round) e ∙ eqb-true x.round r t)) (λ i. let y = ih i in (inr y.0, y.1)) (rw (t, of_round) at q)
    go ih false t q = let y = ih (rw (t, of_round) at q) in (inr y.0, y.1)
