-- Putting a certificate in the table. Assumes nothing.
use mathlib.Core.Bool.{Bool, false, true}
use mathlib.Core.List.{List, [], ◌++◌, ◌∷◌}
use mathlib.Core.Logic.{◌⊎◌, inl, inr, ⊎_elim}
use mathlib.Core.Path.{◌∙◌, ◌≡◌, ap, refl, subst, sym}
use borrow.Author.Tests.{eqb-true}
use lib.Dec.{eqb}
use Rattle.wire.specs.Bytes.{alike}
use Rattle.wire.proofs.Laws.{alike-false, true-not-false}
use Rattle.config.proofs.Laws.{both}
use Rattle.consensus.specs.Among.{In}
use Rattle.consensus.specs.Table.{Cert, clash, holds_pair, insert, same_pair}
use Rattle.consensus.proofs.Lists.{Distinct}

pub insert-in : (x : Cert) (cs : List Cert) (c : Cert) → In c (insert x cs) → (c ≡ x) ⊎ In c cs
unfolding insert
insert-in x [] c h = h
insert-in x (y ∷ cs) c h = go (insert-in x cs c) (same_pair y x) refl h
  where
    go : (In c (insert x cs) → (c ≡ x) ⊎ In c cs) → (b : Bool) → same_pair y x ≡ b → In c (insert x (y ∷ cs))
        → (c ≡ x) ⊎ In c (y ∷ cs)
    go ih true t q = ⊎_elim (λ z. inl z) (λ i. inr (inr i)) (rw (t, insert) at q)
    go ih false t q = ⊎_elim (λ z. inr (inl z)) (λ i. ⊎_elim (λ z. inl z) (λ j. inr (inr j)) (ih i)) (rw (t, insert) at q)

pub insert-new : (x : Cert) (cs : List Cert) → In x (insert x cs)
unfolding insert
insert-new x [] = inl refl
insert-new x (y ∷ cs) = go (insert-new x cs) (same_pair y x) refl
  where
    go : In x (insert x cs) → (b : Bool) → same_pair y x ≡ b → In x (insert x (y ∷ cs))
    go ih true t = rw (t, insert) (inl refl)
    go ih false t = rw (t, insert) (inr ih)

-- no pair: it goes at the end
pub insert-end : (x : Cert) (cs : List Cert) → holds_pair x cs ≡ false → insert x cs ≡ cs ++ (x ∷ [])
unfolding insert holds_pair
insert-end x [] e = refl
insert-end x (y ∷ cs) e = go (insert-end x cs) (same_pair y x) refl e
  where
    go : (holds_pair x cs ≡ false → insert x cs ≡ cs ++ (x ∷ [])) → (b : Bool) → same_pair y x ≡ b
        → holds_pair x (y ∷ cs) ≡ false → insert x (y ∷ cs) ≡ (y ∷ cs) ++ (x ∷ [])
    go ih true t q = absurd (true-not-false (rw (t, holds_pair) at q))
    go ih false t q = rw (t, insert) (ap (λ (v : List Cert). y ∷ v) (ih (rw (t, holds_pair) at q)))

pub pair-some : (x : Cert) (cs : List Cert) → holds_pair x cs ≡ true → (c : Cert) × In c cs × (c.origin ≡ x.origin) × (c.round ≡ x.round)
unfolding holds_pair
pair-some x [] e = absurd (true-not-false (sym e))
pair-some x (y ∷ cs) e = go (pair-some x cs) (same_pair y x) refl e
  where
    go : (holds_pair x cs ≡ true → (c : Cert) × In c cs × (c.origin ≡ x.origin) × (c.round ≡ x.round))
        → (b : Bool) → same_pair y x ≡ b → holds_pair x (y ∷ cs) ≡ true
        → (c : Cert) × In c (y ∷ cs) × (c.origin ≡ x.origin) × (c.round ≡ x.round)
    go ih true t q =
        let u = both (eqb y.origin x.origin) (eqb y.round x.round) t in
        (y, inl refl, eqb-true y.origin x.origin u.0, eqb-true y.round x.round u.1)
    go ih false t q = let z = ih (rw (t, holds_pair) at q) in (z.0, inr z.1, z.2, z.3)

-- no clash: a held one with the digest has the pair
pub clash-no : (x : Cert) (cs : List Cert) → clash x cs ≡ false → (c : Cert) → In c cs → c.digest ≡ x.digest → (c.origin ≡ x.origin) × (c.round ≡ x.round)
unfolding clash
clash-no x [] e c h d = absurd h
clash-no x (y ∷ cs) e c h d =
    go (λ z i. clash-no x cs z c i d) (eqb y.origin x.origin) refl (eqb y.round x.round) refl (alike y.digest x.digest) refl e h
  where
    Pair : Cert → Type 0
    Pair v = (v.origin ≡ x.origin) × (v.round ≡ x.round)

    differ : alike y.digest x.digest ≡ false → c ≡ y → ⊥
    differ t z = alike-false y.digest x.digest t (ap (λ (v : Cert). v.digest) (sym z) ∙ d)

    go : (clash x cs ≡ false → In c cs → Pair c)
        → (b₁ : Bool) → eqb y.origin x.origin ≡ b₁ → (b₂ : Bool) → eqb y.round x.round ≡ b₂ → (b₃ : Bool) → alike y.digest x.digest ≡ b₃
        → clash x (y ∷ cs) ≡ false → In c (y ∷ cs) → Pair c
    go ih true t₁ true t₂ b₃ t₃ q (inl z) = subst Pair (sym z) (eqb-true y.origin x.origin t₁, eqb-true y.round x.round t₂)
    go ih true t₁ true t₂ true t₃ q (inr i) = ih (rw (t₃, t₁, t₂, clash) at q) i
    go ih true t₁ true t₂ false t₃ q (inr i) = ih (rw (t₃, clash) at q) i
    go ih true t₁ false t₂ true t₃ q h = absurd (true-not-false (rw (t₃, t₁, t₂, clash) at q))
    go ih true t₁ false t₂ false t₃ q (inl z) = absurd (differ t₃ z)
    go ih true t₁ false t₂ false t₃ q (inr i) = ih (rw (t₃, clash) at q) i
    go ih false t₁ b₂ t₂ true t₃ q h = absurd (true-not-false (rw (t₃, t₁, clash) at q))
    go ih false t₁ b₂ t₂ false t₃ q (inl z) = absurd (differ t₃ z)
    go ih false t₁ b₂ t₂ false t₃ q (inr i) = ih (rw (t₃, clash) at q) i

pub distinct-end : (x : Cert) (cs : List Cert) → ((c : Cert) → In c cs → c.digest ≡ x.digest → ⊥) → Distinct cs → Distinct (cs ++ (x ∷ []))
distinct-end x [] n u = ((λ c h e. h), tt)
distinct-end x (y ∷ cs) n u = ((λ c h e. back c (split cs c h) e), distinct-end x cs (λ c h e. n c (inr h) e) u.1)
  where
    split : (ds : List Cert) (c : Cert) → In c (ds ++ (x ∷ [])) → In c ds ⊎ (c ≡ x)
    split [] c (inl z) = inr z
    split [] c (inr z) = absurd z
    split (d ∷ ds) c (inl z) = inl (inl z)
    split (d ∷ ds) c (inr z) = ⊎_elim (λ i. inl (inr i)) (λ e. inr e) (split ds c z)

    back : (c : Cert) → In c cs ⊎ (c ≡ x) → y.digest ≡ c.digest → ⊥
    back c (inl i) e = u.0 c i e
    back c (inr z) e = n y (inl refl) (e ∙ ap (λ (v : Cert). v.digest) z)
