-- Listing and clearing: what a step keeps and clears, and the last committed rounds. Assumes nothing.
use mathlib.Core.Bool.{Bool, false, true}
use mathlib.Core.List.{List, [], ◌∷◌}
use mathlib.Core.Logic.{◌⊎◌, inl, inr, ⊎_elim}
use mathlib.Core.Path.{◌∙◌, ◌≡◌, ap, refl, subst, sym}
use Prim.Native.Nat.{◌+◌, ◌<◌, ◌≤◌, max, suc, zero, ℕ}
use native.Mathlib.Omega.{arith}
use borrow.Author.Tests.{eqb-false, eqb-true, le-ltb, leb-false, leb-true, ltb-false, ltb-true}
use lib.Dec.{eqb, leb, ltb}
use lib.ListN.{get_or, length, length-set}
use lib.Seq.{get_or-set_other, get_or-set_same}
use Rattle.consensus.specs.Among.{In}
use Rattle.consensus.specs.Listing.{Cause, Event, Fate, Step, clear, cleared, clearings, deep, fate, goes, later, list_all, list_one, raise, stays, told, trace}
use Rattle.consensus.specs.Table.{Cert, State, highest}
use Rattle.consensus.proofs.Lists.{Distinct, in_left, in_right}

pub stays≢goes : {w : Cause} → stays ≡ goes w → ⊥
stays≢goes e = let z : ◌≡◌ {A = ℕ} 0 1 = cc in omega arith

-- clearing

module _ (depth : ℕ) (last : List ℕ) (top : ℕ) where
  -- what a fate means
  pub data Means (c : Cert) : Fate → Type 0 where
    kept : get_or last c.origin 0 ≤ c.round → top ≤ c.round + depth → Means c stays
    late : c.round < get_or last c.origin 0 → Means c (goes (later (get_or last c.origin 0)))
    far : c.round + depth < top → Means c (goes (deep top))

  pub means : (c : Cert) → Means c (fate depth last top c)
  unfolding fate
  means c = go (ltb c.round (get_or last c.origin 0)) refl (ltb (c.round + depth) top) refl
    where
      go : (b : Bool) → ltb c.round (get_or last c.origin 0) ≡ b → (d : Bool) → ltb (c.round + depth) top ≡ d → Means c (fate depth last top c)
      go true e d f = rw (e, fate) (late (ltb-true c.round (get_or last c.origin 0) e))
      go false e true f = rw (e, f, fate) (far (ltb-true (c.round + depth) top f))
      go false e false f = rw (e, f, fate) (kept (ltb-false c.round (get_or last c.origin 0) e) (ltb-false (c.round + depth) top f))

  pub stays-means : (c : Cert) → fate depth last top c ≡ stays → (get_or last c.origin 0 ≤ c.round) × (top ≤ c.round + depth)
  stays-means c e = go stays (subst (Means c) e (means c)) refl
    where
      go : (f : Fate) → Means c f → f ≡ stays → (get_or last c.origin 0 ≤ c.round) × (top ≤ c.round + depth)
      go stays (kept a b) q = (a, b)
      go (goes (later _)) (late a) q = absurd (stays≢goes (sym q))
      go (goes (deep _)) (far a) q = absurd (stays≢goes (sym q))

  pub stays-when : (c : Cert) → get_or last c.origin 0 ≤ c.round → top ≤ c.round + depth → fate depth last top c ≡ stays
  unfolding fate
  stays-when c a b = rw (le-ltb c.round (get_or last c.origin 0) a, le-ltb (c.round + depth) top b, fate)

  pub clear_in : (cs : List Cert) (c : Cert) → In c (clear depth last top cs) → In c cs × (fate depth last top c ≡ stays)
  unfolding clear
  clear_in [] c h = absurd h
  clear_in (x ∷ cs) c h = go (clear_in cs c) (fate depth last top x) refl h
    where
      go : (In c (clear depth last top cs) → In c cs × (fate depth last top c ≡ stays)) → (f : Fate) → fate depth last top x ≡ f
          → In c (clear depth last top (x ∷ cs)) → In c (x ∷ cs) × (fate depth last top c ≡ stays)
      go ih stays e q = ⊎_elim (λ z. (inl z, rw z e)) (λ i. let y = ih i in (inr y.0, y.1)) (rw (e, clear) at q)
      go ih (goes w) e q = let y = ih (rw (e, clear) at q) in (inr y.0, y.1)

  pub in-clear : (cs : List Cert) (c : Cert) → In c cs → fate depth last top c ≡ stays → In c (clear depth last top cs)
  unfolding clear
  in-clear [] c h s = h
  in-clear (x ∷ cs) c h s = go (λ i. in-clear cs c i s) (fate depth last top x) refl h
    where
      go : (In c cs → In c (clear depth last top cs)) → (f : Fate) → fate depth last top x ≡ f → In c (x ∷ cs) → In c (clear depth last top (x ∷ cs))
      go ih stays e q = rw (e, clear) (⊎_elim (λ z. inl z) (λ i. inr (ih i)) q)
      go ih (goes w) e q =
          rw (e, clear) (⊎_elim (λ z. absurd (stays≢goes (sym s ∙ ap (fate depth last top) z ∙ e))) (λ i. ih i) q)

  pub clearings-in : (cs : List Cert) (c : Cert) (w : Cause) → In c cs → fate depth last top c ≡ goes w → In (cleared c w) (clearings depth last top cs)
  unfolding clearings
  clearings-in [] c w h s = h
  clearings-in (x ∷ cs) c w h s = go (λ i. clearings-in cs c w i s) (fate depth last top x) refl h
    where
      go : (In c cs → In (cleared c w) (clearings depth last top cs)) → (f : Fate) → fate depth last top x ≡ f → In c (x ∷ cs)
          → In (cleared c w) (clearings depth last top (x ∷ cs))
      go ih stays e q =
          rw (e, clearings) (⊎_elim (λ z. absurd (stays≢goes (sym (sym s ∙ ap (fate depth last top) z ∙ e)))) (λ i. ih i) q)
      go ih (goes v) e q =
          rw (e, clearings) (⊎_elim (λ z. inl (same z (sym s ∙ ap (fate depth last top) z ∙ e))) (λ i. inr (ih i)) q)
        where
          same : c ≡ x → goes w ≡ goes v → cleared c w ≡ cleared x v
          same p r = let k : w ≡ v = cc in cc

  pub distinct-clear : (cs : List Cert) → Distinct cs → Distinct (clear depth last top cs)
  unfolding clear
  distinct-clear [] u = tt
  distinct-clear (x ∷ cs) u = go (distinct-clear cs u.1) (fate depth last top x) refl
    where
      go : Distinct (clear depth last top cs) → (f : Fate) → fate depth last top x ≡ f → Distinct (clear depth last top (x ∷ cs))
      go ih stays e = rw (e, clear) ((λ d h z. u.0 d (clear_in cs d h).0 z), ih)
      go ih (goes w) e = rw (e, clear) ih

-- the last committed rounds

pub raise-at : (c : Cert) (lasts : List ℕ) → c.origin < length lasts → get_or (raise c lasts) c.origin 0 ≡ max (get_or lasts c.origin 0) c.round
unfolding raise
raise-at c lasts lt = get_or-set_same lasts c.origin (max (get_or lasts c.origin 0) c.round) 0 lt

pub raise-off : (c : Cert) (lasts : List ℕ) (o : ℕ) → (o ≡ c.origin → ⊥) → get_or (raise c lasts) o 0 ≡ get_or lasts o 0
unfolding raise
raise-off c lasts o n = get_or-set_other lasts c.origin o (max (get_or lasts c.origin 0) c.round) 0 n

-- it is the old, or the listed round
pub raise-is : (c : Cert) (lasts : List ℕ) (o : ℕ) → c.origin < length lasts
    → (get_or lasts o 0 ≤ get_or (raise c lasts) o 0) × ((get_or (raise c lasts) o 0 ≡ get_or lasts o 0) ⊎ ((o ≡ c.origin) × (get_or (raise c lasts) o 0 ≡ c.round)))
raise-is c lasts o lt = go (eqb o c.origin) refl
  where
    R : ℕ
    R = get_or (raise c lasts) o 0

    Goal : Type 0
    Goal = (get_or lasts o 0 ≤ get_or (raise c lasts) o 0) × ((get_or (raise c lasts) o 0 ≡ get_or lasts o 0) ⊎ ((o ≡ c.origin) × (get_or (raise c lasts) o 0 ≡ c.round)))

    same : o ≡ c.origin → (b : Bool) → leb c.round (get_or lasts o 0) ≡ b → Goal
    same e true l =
        let q : get_or (raise c lasts) o 0 ≡ max (get_or lasts o 0) c.round = rw e (raise-at c lasts lt) in
        let k : c.round ≤ get_or lasts o 0 = leb-true c.round (get_or lasts o 0) l in
        (omega arith, inl (omega arith))
    same e false l =
        let q : get_or (raise c lasts) o 0 ≡ max (get_or lasts o 0) c.round = rw e (raise-at c lasts lt) in
        let k : get_or lasts o 0 < c.round = leb-false c.round (get_or lasts o 0) l in
        (omega arith, inr (e, omega arith))

    go : (b : Bool) → eqb o c.origin ≡ b → Goal
    go true e = same (eqb-true o c.origin e) (leb c.round (get_or lasts o 0)) refl
    go false e = let q = raise-off c lasts o (eqb-false o c.origin e) in (omega arith, inl q)

pub highest-ge : (lasts : List ℕ) (o : ℕ) → get_or lasts o 0 ≤ highest lasts
unfolding highest
highest-ge [] o = omega arith
highest-ge (x ∷ xs) zero = omega arith
highest-ge (x ∷ xs) (suc o) = let i = highest-ge xs o in omega arith

pub highest-at : (lasts : List ℕ) → (highest lasts ≡ 0) ⊎ ((o : ℕ) × (get_or lasts o 0 ≡ highest lasts))
unfolding highest
highest-at [] = inl refl
highest-at (x ∷ xs) = go (highest-at xs) (leb (highest xs) x) refl
  where
    go : (highest xs ≡ 0) ⊎ ((o : ℕ) × (get_or xs o 0 ≡ highest xs)) → (b : Bool) → leb (highest xs) x ≡ b
        → (max x (highest xs) ≡ 0) ⊎ ((o : ℕ) × (get_or (x ∷ xs) o 0 ≡ max x (highest xs)))
    go ih true e = let l : highest xs ≤ x = leb-true (highest xs) x e in inr (0, omega arith)
    go (inl z) false e = let l : x < highest xs = leb-false (highest xs) x e in absurd (omega arith)
    go (inr q) false e = let l : x < highest xs = leb-false (highest xs) x e in inr (suc q.0, q.1 ∙ omega arith)

pub raise-size : (x : Cert) (l : List ℕ) → length (raise x l) ≡ length l
unfolding raise
raise-size x l = length-set l x.origin (max (get_or l x.origin 0) x.round)

pub trace-in : (depth : ℕ) (ps : List Step) (p : Step) (e : Event) → In p ps → In e (told depth p) → In e (trace depth ps)
unfolding trace
trace-in depth [] p e h q = absurd h
trace-in depth (x ∷ ps) p e h q =
    ⊎_elim (λ z. in_left (told depth x) (trace depth ps) e (subst (λ (v : Step). In e (told depth v)) z q))
    (λ i. in_right (told depth x) (trace depth ps) e (trace-in depth ps p e i q)) h

module _ (depth : ℕ) where
  size-eq : (x : Cert) (s : State) → length (list_one depth x s).last ≡ length s.last
  unfolding list_one
  size-eq x s = raise-size x s.last

  pub size-one : (x : Cert) (s : State) (o : ℕ) → o < length s.last → o < length (list_one depth x s).last
  unfolding list_one
  size-one x s o l = rw (raise-size x s.last) l

  -- the highest listed round stays within a bound, and what lies above the bound stays held
  highest-one : (s : State) (c : Cert) (b : ℕ) → c.origin < length s.last → c.round ≤ b → highest s.last ≤ b → highest (list_one depth c s).last ≤ b
  unfolding list_one
  highest-one s c b lt l h = go (highest-at (raise c s.last))
    where
      go : (highest (raise c s.last) ≡ 0) ⊎ ((o : ℕ) × (get_or (raise c s.last) o 0 ≡ highest (raise c s.last))) → highest (raise c s.last) ≤ b
      go (inl z) = omega arith
      go (inr q) = ⊎_elim (λ e. let g = highest-ge s.last q.0 in let y = q.1 in omega arith) (λ e. let y = q.1 in let z = e.1 in omega arith) (raise-is c s.last q.0 lt).1

  stays-one : (s : State) (x : Cert) (b : ℕ) → x.origin < length s.last → x.round ≤ b → highest s.last ≤ b
      → (c : Cert) → b < c.round → In c s.held → In c (list_one depth x s).held
  unfolding list_one
  stays-one s x b lt l h c m e =
      let t : highest (raise x s.last) ≤ b = highest-one s x b lt l h in
      let g = highest-ge (raise x s.last) c.origin in
      in-clear depth (raise x s.last) (highest (raise x s.last)) s.held c e
      (stays-when depth (raise x s.last) (highest (raise x s.last)) c (omega arith) (omega arith))

  pub record Within (w : List Cert) (s : State) (b : ℕ) : Type 0 where
    pub high : highest (list_all depth w s).last ≤ b
    pub size : length (list_all depth w s).last ≡ length s.last
    pub above : (c : Cert) → b < c.round → In c s.held → In c (list_all depth w s).held

  pub within : (w : List Cert) (s : State) (b : ℕ) → ((c : Cert) → In c w → (c.origin < length s.last) × (c.round ≤ b)) → highest s.last ≤ b → Within w s b
  unfolding list_all
  within [] s b m h = record { high = h; size = refl; above = λ c l e. e }
  within (x ∷ w) s b m h =
      let mx = m x (inl refl) in
      let r = within w (list_one depth x s) b (λ c q. (size-one x s c.origin (m c (inr q)).0, (m c (inr q)).1)) (highest-one s x b mx.0 mx.1 h) in
      record {
        high = r.high;
        size = r.size ∙ size-eq x s;
        above = λ c l e. r.above c l (stays-one s x b mx.0 mx.1 h c l e);
      }

  -- what is held after a listing was held before
  pub list_back : (w : List Cert) (s : State) (c : Cert) → In c (list_all depth w s).held → In c s.held
  unfolding list_all list_one
  list_back [] s c h = h
  list_back (x ∷ w) s c h =
      (clear_in depth (raise x s.last) (highest (raise x s.last)) s.held c (list_back w (list_one depth x s) c h)).0

  pub all-size : (w : List Cert) (s : State) → length (list_all depth w s).last ≡ length s.last
  unfolding list_all list_one
  all-size [] s = refl
  all-size (x ∷ w) s = all-size w (list_one depth x s) ∙ raise-size x s.last
