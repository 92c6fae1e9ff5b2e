-- Dropping the deep and sorting by round keep what is listed, each once. Assumes nothing.
use mathlib.Core.Bool.{Bool, false, true}
use mathlib.Core.List.{List, [], ◌∷◌, map}
use mathlib.Core.Logic.{◌⊎◌, inl, inr, ⊎_elim}
use mathlib.Core.Path.{◌≡◌, ap, refl, subst, sym}
use Prim.Native.Nat.{◌+◌, ◌<◌, ◌≤◌, ℕ}
use native.Mathlib.Omega.{arith}
use borrow.Author.Tests.{ltb-false, ltb-true}
use lib.Dec.{leb, ltb}
use Rattle.consensus.specs.Among.{In, Once}
use Rattle.consensus.specs.Table.{Cert}
use Rattle.consensus.specs.Walk.{by_round, drop_deep, place}

-- lists of certificates

pub in_map : (f : ℕ → Cert) (js : List ℕ) (j : ℕ) → In j js → In (f j) (map f js)
in_map f [] j h = h
in_map f (x ∷ js) j h = ⊎_elim (λ e. inl (ap f e)) (λ h'. inr (in_map f js j h')) h

pub map-in : (f : ℕ → Cert) (js : List ℕ) (c : Cert) → In c (map f js) → (j : ℕ) × In j js × (c ≡ f j)
map-in f [] c h = absurd h
map-in f (x ∷ js) c h = go (map-in f js c) h
  where
    go : (In c (map f js) → (j : ℕ) × In j js × (c ≡ f j)) → (c ≡ f x) ⊎ In c (map f js) → (j : ℕ) × In j (x ∷ js) × (c ≡ f j)
    go ih (inl e) = (x, inl refl, e)
    go ih (inr h') = let y = ih h' in (y.0, inr y.1, y.2)

pub once-map : (f : ℕ → Cert) (js : List ℕ) → ((i j : ℕ) → In i js → In j js → f i ≡ f j → i ≡ j) → Once js → Once (map f js)
once-map f [] inj o = tt
once-map f (x ∷ js) inj o = (
  (λ h. let y = map-in f js (f x) h in o.0 (subst (λ (k : ℕ). In k js) (sym (inj x y.0 (inl refl) (inr y.1) y.2)) y.1)),
  once-map f js (λ i j h k e. inj i j (inr h) (inr k) e) o.1,
)

module _ (depth top : ℕ) where
  abbrev Near : Cert → Type 0
  Near c = top ≤ c.round + depth

  pub deep_in : (cs : List Cert) (c : Cert) → In c (drop_deep depth top cs) → In c cs × Near c
  unfolding drop_deep
  deep_in [] c h = absurd h
  deep_in (x ∷ cs) c h = go (deep_in cs c) (ltb (x.round + depth) top) refl h
    where
      go : (In c (drop_deep depth top cs) → In c cs × Near c) → (b : Bool) → ltb (x.round + depth) top ≡ b → In c (drop_deep depth top (x ∷ cs)) → In c (x ∷ cs) × Near c
      go ih true e q = let y = ih (rw (e, drop_deep) at q) in (inr y.0, y.1)
      go ih false e q =
          ⊎_elim (λ z. (inl z, subst Near (sym z) (ltb-false (x.round + depth) top e))) (λ q'. let y = ih q' in (inr y.0, y.1)) (rw (e, drop_deep) at q)

  pub in-deep : (cs : List Cert) (c : Cert) → In c cs → Near c → In c (drop_deep depth top cs)
  unfolding drop_deep
  in-deep [] c h n = h
  in-deep (x ∷ cs) c h n = go (λ q. in-deep cs c q n) (ltb (x.round + depth) top) refl h
    where
      go : (In c cs → In c (drop_deep depth top cs)) → (b : Bool) → ltb (x.round + depth) top ≡ b → In c (x ∷ cs) → In c (drop_deep depth top (x ∷ cs))
      go ih true e q =
          rw (e, drop_deep) (⊎_elim
          (λ z. let l : x.round + depth < top = ltb-true (x.round + depth) top e in
          let m : top ≤ x.round + depth = subst Near z n in absurd (omega arith))
          (λ q'. ih q') q)
      go ih false e q = rw (e, drop_deep) (⊎_elim (λ z. inl z) (λ q'. inr (ih q')) q)

  pub once-deep : (cs : List Cert) → Once cs → Once (drop_deep depth top cs)
  unfolding drop_deep
  once-deep [] o = tt
  once-deep (x ∷ cs) o = go (once-deep cs o.1) (ltb (x.round + depth) top) refl
    where
      go : Once (drop_deep depth top cs) → (b : Bool) → ltb (x.round + depth) top ≡ b → Once (drop_deep depth top (x ∷ cs))
      go ih true e = rw (e, drop_deep) ih
      go ih false e = rw (e, drop_deep) ((λ h. o.0 (deep_in cs x h).0), ih)

pub place_in : (x : Cert) (cs : List Cert) (c : Cert) → In c (place x cs) → (c ≡ x) ⊎ In c cs
unfolding place
place_in x [] c h = h
place_in x (y ∷ cs) c h = go (place_in x cs c) (leb x.round y.round) refl h
  where
    go : (In c (place x cs) → (c ≡ x) ⊎ In c cs) → (b : Bool) → leb x.round y.round ≡ b → In c (place x (y ∷ cs)) → (c ≡ x) ⊎ In c (y ∷ cs)
    go ih true e q = rw (e, place) at q
    go ih false e q = ⊎_elim (λ z. inr (inl z)) (λ q'. ⊎_elim (λ z. inl z) (λ i. inr (inr i)) (ih q')) (rw (e, place) at q)

in_place : (x : Cert) (cs : List Cert) (c : Cert) → (c ≡ x) ⊎ In c cs → In c (place x cs)
unfolding place
in_place x [] c h = h
in_place x (y ∷ cs) c h = go (in_place x cs c) (leb x.round y.round) refl h
  where
    go : ((c ≡ x) ⊎ In c cs → In c (place x cs)) → (b : Bool) → leb x.round y.round ≡ b → (c ≡ x) ⊎ In c (y ∷ cs) → In c (place x (y ∷ cs))
    go ih true e q = rw (e, place) q
    go ih false e q = rw (e, place) (⊎_elim (λ z. inr (ih (inl z))) (λ q'. ⊎_elim (λ z. inl z) (λ i. inr (ih (inr i))) q') q)

once-place : (x : Cert) (cs : List Cert) → (In x cs → ⊥) → Once cs → Once (place x cs)
unfolding place
once-place x [] n o = (n, tt)
once-place x (y ∷ cs) n o = go (once-place x cs (λ h. n (inr h)) o.1) (leb x.round y.round) refl
  where
    go : Once (place x cs) → (b : Bool) → leb x.round y.round ≡ b → Once (place x (y ∷ cs))
    go ih true e = rw (e, place) (n, o)
    go ih false e = rw (e, place) ((λ h. ⊎_elim (λ z. n (inl (sym z))) (λ i. o.0 i) (place_in x cs y h)), ih)

pub sort-in : (cs : List Cert) (c : Cert) → In c (by_round cs) → In c cs
unfolding by_round
sort-in [] c h = h
sort-in (x ∷ cs) c h = ⊎_elim (λ z. inl z) (λ i. inr (sort-in cs c i)) (place_in x (by_round cs) c h)

pub in-sort : (cs : List Cert) (c : Cert) → In c cs → In c (by_round cs)
unfolding by_round
in-sort [] c h = h
in-sort (x ∷ cs) c h = in_place x (by_round cs) c (⊎_elim (λ z. inl z) (λ i. inr (in-sort cs c i)) h)

pub once-sort : (cs : List Cert) → Once cs → Once (by_round cs)
unfolding by_round
once-sort [] o = tt
once-sort (x ∷ cs) o = once-place x (by_round cs) (λ h. o.0 (sort-in cs x h)) (once-sort cs o.1)
