-- What is found in the table: a round and a digest, and the parents that are put on. Assumes nothing.
use mathlib.Core.Bool.{Bool, ◌&&◌, false, true}
use mathlib.Core.List.{List, [], ◌∷◌}
use mathlib.Core.Logic.{◌⊎◌, inl, inr, ⊎_elim}
use mathlib.Core.Path.{◌∙◌, ◌≡◌, ap, refl, subst, sym}
use Prim.Native.Nat.{◌-◌, ◌<◌, suc-le-suc, ℕ}
use native.Mathlib.Nat.{le_of_suc-le-suc, not-suc-le-zero}
use native.Mathlib.Omega.{arith}
use borrow.Author.Tests.{eqb-false, eqb-true, lt-ltb, ltb-true, ne_eqb}
use lib.Dec.{eqb, ltb}
use lib.ListN.{get_or, length}
use Rattle.wire.proofs.Laws.{alike-false, alike-true}
use Rattle.wire.specs.Bytes.{alike}
use Rattle.config.proofs.Laws.{both}
use Rattle.consensus.specs.Among.{In}
use Rattle.consensus.specs.Table.{Cert, State, cert_at, find}
use Rattle.consensus.specs.Walk.{open_parents, parents_at}
use Rattle.consensus.proofs.Lists.{Distinct, at_in, at-inj, same-digest}

-- what find finds
pub find-is : (r : ℕ) (d : List ℕ) (cs : List Cert) → find r d cs < length cs → ((cert_at cs (find r d cs)).round ≡ r) × ((cert_at cs (find r d cs)).digest ≡ d)
unfolding find cert_at
find-is r d [] h = absurd (not-suc-le-zero h)
find-is r d (c ∷ cs) h = go (find-is r d cs) (eqb c.round r && alike c.digest d) refl h
  where
    go : (find r d cs < length cs → ((cert_at cs (find r d cs)).round ≡ r) × ((cert_at cs (find r d cs)).digest ≡ d))
        → (b : Bool) → (eqb c.round r && alike c.digest d) ≡ b → find r d (c ∷ cs) < length (c ∷ cs)
        → ((cert_at (c ∷ cs) (find r d (c ∷ cs))).round ≡ r) × ((cert_at (c ∷ cs) (find r d (c ∷ cs))).digest ≡ d)
    go ih true e l =
        let t = both (eqb c.round r) (alike c.digest d) e in
        rw (e, find, cert_at) (eqb-true c.round r t.0, alike-true c.digest d t.1)
    go ih false e l = rw (e, find, cert_at) (ih (le_of_suc-le-suc (rw (e, find) at l)))

pub find-some : (r : ℕ) (d : List ℕ) (cs : List Cert) (c : Cert) → In c cs → c.round ≡ r → c.digest ≡ d → find r d cs < length cs
unfolding find
find-some r d [] c h er ed = absurd h
find-some r d (x ∷ cs) c h er ed = go (λ i. find-some r d cs c i er ed) (eqb x.round r) refl (alike x.digest d) refl h
  where
    go : (In c cs → find r d cs < length cs) → (b : Bool) → eqb x.round r ≡ b → (b' : Bool) → alike x.digest d ≡ b' → In c (x ∷ cs)
        → find r d (x ∷ cs) < length (x ∷ cs)
    go ih true q true q' h = rw (q, q', find) (omega arith)
    go ih true q false q' (inl e) = absurd (alike-false x.digest d q' (ap (λ (v : Cert). v.digest) (sym e) ∙ ed))
    go ih true q false q' (inr i) = rw (q, q', find) (suc-le-suc (ih i))
    go ih false q b' q' (inl e) = absurd (eqb-false x.round r q (ap (λ (v : Cert). v.round) (sym e) ∙ er))
    go ih false q b' q' (inr i) = rw (q, find) (suc-le-suc (ih i))

module _ (lasts : List ℕ) (ps : List Cert) (r : ℕ) where
  -- what a place that is put on is
  pub record Parent (ds : List (List ℕ)) (j : ℕ) : Type 0 where
    pub low : j < length ps
    pub named : In (cert_at ps j).digest ds
    pub below : (cert_at ps j).round ≡ r
    pub open' : get_or lasts (cert_at ps j).origin 0 ≡ (cert_at ps j).round → ⊥

  weaken : (d : List ℕ) (ds : List (List ℕ)) (j : ℕ) → Parent ds j → Parent (d ∷ ds) j
  weaken d ds j k = record { low = k.low; named = inr k.named; below = k.below; open' = k.open' }

  pub parents-are : (ds : List (List ℕ)) (j : ℕ) → In j (open_parents lasts ps r ds) → Parent ds j
  unfolding open_parents
  parents-are [] j h = absurd h
  parents-are (d ∷ ds) j h = go (parents-are ds j) (ltb (find r d ps) (length ps)) refl h
    where
      f : ℕ
      f = find r d ps

      go₂ : (In j (open_parents lasts ps r ds) → Parent ds j) → f < length ps
          → ltb f (length ps) ≡ true
          → (b : Bool) → eqb (get_or lasts (cert_at ps f).origin 0) (cert_at ps f).round ≡ b → In j (open_parents lasts ps r (d ∷ ds)) → Parent (d ∷ ds) j
      go₂ ih lt t true e h = weaken d ds j (ih (rw (t, e, open_parents) at h))
      go₂ ih lt t false e h =
          let x = find-is r d ps lt in
          let q : (j ≡ f) ⊎ In j (open_parents lasts ps r ds) = rw (t, e, open_parents) at h in
          ⊎_elim
          (λ z. subst (Parent (d ∷ ds)) (sym z) (record {
            low = lt;
            named = inl x.1;
            below = x.0;
            open' = eqb-false (get_or lasts (cert_at ps f).origin 0) (cert_at ps f).round e;
          }))
          (λ i. weaken d ds j (ih i)) q

      go : (In j (open_parents lasts ps r ds) → Parent ds j) → (b : Bool) → ltb f (length ps) ≡ b → In j (open_parents lasts ps r (d ∷ ds)) → Parent (d ∷ ds) j
      go ih false t h = weaken d ds j (ih (rw (t, open_parents) at h))
      go ih true t h = go₂ ih (ltb-true f (length ps) t) t (eqb (get_or lasts (cert_at ps f).origin 0) (cert_at ps f).round) refl h

  grow : (d : List ℕ) (ds : List (List ℕ)) (j : ℕ) → In j (open_parents lasts ps r ds) → In j (open_parents lasts ps r (d ∷ ds))
  unfolding open_parents
  grow d ds j h = go (ltb f (length ps)) refl
    where
      f : ℕ
      f = find r d ps

      go₂ : ltb f (length ps) ≡ true → (b : Bool) → eqb (get_or lasts (cert_at ps f).origin 0) (cert_at ps f).round ≡ b → In j (open_parents lasts ps r (d ∷ ds))
      go₂ t true e = rw (t, e, open_parents) h
      go₂ t false e = rw (t, e, open_parents) (inr h)

      go : (b : Bool) → ltb f (length ps) ≡ b → In j (open_parents lasts ps r (d ∷ ds))
      go false t = rw (t, open_parents) h
      go true t = go₂ t (eqb (get_or lasts (cert_at ps f).origin 0) (cert_at ps f).round) refl

  first : Distinct ps → (d : List ℕ) (ds : List (List ℕ)) (j : ℕ) (k : Parent (d ∷ ds) j) → (cert_at ps j).digest ≡ d → In j (open_parents lasts ps r (d ∷ ds))
  unfolding open_parents
  first un d ds j k e =
      let f = find r d ps in
      let lt : f < length ps = find-some r d ps (cert_at ps j) (at_in ps j k.low) k.below e in
      let x = find-is r d ps lt in
      let fj : f ≡ j = at-inj ps un f j lt k.low (x.1 ∙ sym e) in
      let ea : cert_at ps f ≡ cert_at ps j = ap (cert_at ps) fj in
      let t : ltb f (length ps) ≡ true = lt-ltb f (length ps) lt in
      let u : eqb (get_or lasts (cert_at ps f).origin 0) (cert_at ps f).round ≡ false = rw ea (ne_eqb (get_or lasts (cert_at ps j).origin 0) (cert_at ps j).round k.open') in
      rw (t, u, open_parents) (inl (sym fj))

  pub are-parents : Distinct ps → (ds : List (List ℕ)) (j : ℕ) → Parent ds j → In j (open_parents lasts ps r ds)
  are-parents un [] j k = absurd k.named
  are-parents un (d ∷ ds) j k =
      let ih = are-parents un ds j in
      ⊎_elim (λ e. first un d ds j k e)
      (λ h. grow d ds j (ih (record { low = k.low; named = h; below = k.below; open' = k.open' }))) k.named

pub parents-low : (s : State) (x j : ℕ) → In j (parents_at s x) → j < length s.held
unfolding parents_at
parents-low s x j h = (parents-are s.last s.held ((cert_at s.held x).round - 1) (cert_at s.held x).parents j h).low

-- the leader's place
pub place_of : (s : State) (l : Cert) → Distinct s.held → In l s.held
    → (find l.round l.digest s.held < length s.held) × (cert_at s.held (find l.round l.digest s.held) ≡ l)
place_of s l un h =
    let f = find l.round l.digest s.held in
    let lt : f < length s.held = find-some l.round l.digest s.held l h refl refl in
    (lt, same-digest s.held un (cert_at s.held f) l (at_in s.held f lt) h (find-is l.round l.digest s.held lt).1)
