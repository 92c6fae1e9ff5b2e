-- What a listing step does to a held certificate: it stays, or goes by the rule, and that is told. Assumes nothing.
use mathlib.Core.List.{List, [], ◌∷◌}
use mathlib.Core.Logic.{◌⊎◌, inl, inr, ⊎_elim}
use mathlib.Core.Path.{◌∙◌, ◌≡◌, refl, subst, sym}
use Prim.Native.Nat.{◌<◌, ℕ}
use native.Mathlib.Omega.{arith}
use lib.ListN.{get_or, length}
use Rattle.consensus.specs.Among.{In}
use Rattle.consensus.specs.Listing.{Cause, Fate, Step, cleared, deep, fate, goes, later, list_all, list_one, raise, stays, steps_of, told}
use Rattle.consensus.specs.Table.{Cert, State, highest}
use Rattle.demands.specs.Demand.{Because, Gone, Heights}
use Rattle.consensus.proofs.Listing.{Means, kept, late, far, clear_in, clearings-in, highest-at, in-clear, means, size-one, stays≢goes, trace-in}
use Rattle.demands.proofs.Between.{heights-one, heights-step}

because-map : (P Q : Cert → Type 0) (depth : ℕ) (l : List ℕ) (c : Cert) → ((d : Cert) → P d → Q d) → (w : Cause) → Because P depth l c w → Because Q depth l c w
because-map P Q depth l c f (later r) b = (b.0, b.1, (b.2.0, f b.2.0 b.2.1, b.2.2, b.2.3))
because-map P Q depth l c f (deep k) b = (b.0, b.1, (b.2.0, f b.2.0 b.2.1, b.2.2))

pub gone-map : (depth : ℕ) (P Q : Cert → Type 0) (ps qs : List Step) (c : Cert) → ((d : Cert) → P d → Q d) → ((p : Step) → In p ps → In p qs)
    → Gone depth P ps c → Gone depth Q qs c
gone-map depth P Q ps qs c f g k =
    record {
      step = k.step;
      among = g k.step k.among;
      until = k.until;
      after = k.after;
      why = k.why;
      because = because-map P Q depth (list_one depth k.step.one k.step.before).last c f k.why k.because;
      event = k.event;
      traced = trace-in depth qs k.step (cleared c k.why) (g k.step k.among) k.event;
    }

module _ (depth : ℕ) where
  -- what a step does to a held one: it stays, or goes by the rule, and that is told
  because-of : (P : Cert → Type 0) (last : List ℕ) → Heights P last → (c : Cert) (f : Fate) → Means depth last (highest last) c f → (w : Cause) → f ≡ goes w
      → Because P depth last c w
  because-of P last H c stays (kept a b) w e = absurd (stays≢goes e)
  because-of P last H c (goes (later _)) (late a) w e = subst (Because P depth last c) (same e) (go (H.some c.origin))
    where
      same : goes (later (get_or last c.origin 0)) ≡ goes w → later (get_or last c.origin 0) ≡ w
      same q = cc

      go : (get_or last c.origin 0 ≡ 0) ⊎ ((d : Cert) × P d × (d.origin ≡ c.origin) × (d.round ≡ get_or last c.origin 0))
          → Because P depth last c (later (get_or last c.origin 0))
      go (inl z) = absurd (omega arith)
      go (inr q) = (refl, omega arith, q)
  because-of P last H c (goes (deep _)) (far a) w e = subst (Because P depth last c) (same e) (go (highest-at last))
    where
      same : goes (deep (highest last)) ≡ goes w → deep (highest last) ≡ w
      same q = cc

      go₂ : (o : ℕ) → get_or last o 0 ≡ highest last → (get_or last o 0 ≡ 0) ⊎ ((d : Cert) × P d × (d.origin ≡ o) × (d.round ≡ get_or last o 0))
          → Because P depth last c (deep (highest last))
      go₂ o y (inl z) = absurd (omega arith)
      go₂ o y (inr q) = (refl, omega arith, (q.0, q.1, q.3 ∙ y))

      go : (highest last ≡ 0) ⊎ ((o : ℕ) × (get_or last o 0 ≡ highest last)) → Because P depth last c (deep (highest last))
      go (inl z) = absurd (omega arith)
      go (inr q) = go₂ q.0 q.1 (H.some q.0)

  pub one-step : (l : Cert) (s : State) (P : Cert → Type 0) (x : Cert) → x.origin < length s.last → Heights P s.last → (c : Cert) → In c s.held
      → In c (list_one depth x s).held ⊎ Gone depth (λ d. (d ≡ x) ⊎ P d) (record { leader = l; one = x; before = s } ∷ []) c
  unfolding list_one told
  one-step l s P x lt H c h = go (fate depth last top c) refl
    where
      last : List ℕ
      last = raise x s.last

      top : ℕ
      top = highest last

      p : Step
      p = record { leader = l; one = x; before = s }

      go : (f : Fate) → fate depth last top c ≡ f → In c (list_one depth x s).held ⊎ Gone depth (λ d. (d ≡ x) ⊎ P d) (p ∷ []) c
      go stays e = inl (in-clear depth last top s.held c h e)
      go (goes w) e =
          let ev : In (cleared c w) (told depth p) = inr (clearings-in depth last top s.held c w h e) in
          inr (record {
            step = p;
            among = inl refl;
            until = h;
            after = λ i. stays≢goes (sym (clear_in depth last top s.held c i).1 ∙ e);
            why = w;
            because = because-of (λ d. (d ≡ x) ⊎ P d) last (heights-one s.last P x lt H) c (fate depth last top c) (means depth last top c) w e;
            event = ev;
            traced = trace-in depth (p ∷ []) p (cleared c w) (inl refl) ev;
          })

  pub all-steps : (l : Cert) (w : List Cert) (s : State) (P : Cert → Type 0) → ((c : Cert) → In c w → c.origin < length s.last) → Heights P s.last
      → (c : Cert) → In c s.held → In c (list_all depth w s).held ⊎ Gone depth (λ d. In d w ⊎ P d) (steps_of depth l w s) c
  unfolding list_all steps_of
  all-steps l [] s P m H c h = inl h
  all-steps l (x ∷ w) s P m H c h =
      go (λ i. all-steps l w (list_one depth x s) (λ d. (d ≡ x) ⊎ P d) (λ d q. size-one depth x s d.origin (m d (inr q))) (heights-step depth s P x (m x (inl refl)) H) c i)
      (one-step l s P x (m x (inl refl)) H c h)
    where
      P' : Cert → Type 0
      P' d = (d ≡ x) ⊎ P d

      p : Step
      p = record { leader = l; one = x; before = s }

      Q : Cert → Type 0
      Q d = In d (x ∷ w) ⊎ P d

      go : (In c (list_one depth x s).held
          → In c (list_all depth w (list_one depth x s)).held ⊎ Gone depth (λ d. In d w ⊎ P' d) (steps_of depth l w (list_one depth x s)) c)
          → In c (list_one depth x s).held ⊎ Gone depth P' (p ∷ []) c
          → In c (list_all depth w (list_one depth x s)).held ⊎ Gone depth Q (p ∷ steps_of depth l w (list_one depth x s)) c
      go ih (inl i) =
          ⊎_elim (λ q. inl q)
          (λ g. inr (gone-map depth (λ d. In d w ⊎ P' d) Q (steps_of depth l w (list_one depth x s)) (p ∷ steps_of depth l w (list_one depth x s)) c
          (λ d q. ⊎_elim (λ a. inl (inr a)) (λ q'. ⊎_elim (λ z. inl (inl z)) (λ b. inr b) q') q) (λ q z. inr z) g))
          (ih i)
      go ih (inr g) =
          inr (gone-map depth P' Q (p ∷ []) (p ∷ steps_of depth l w (list_one depth x s)) c
          (λ d q. ⊎_elim (λ z. inl (inl z)) (λ b. inr b) q) (λ q z. ⊎_elim (λ y. inl y) (λ y. absurd y) z) g)
