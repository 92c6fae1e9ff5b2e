-- One call keeps the invariant, and does what demand 3 says. Assumes nothing.
use mathlib.Core.Bool.{Bool, ◌||◌, false, true}
use mathlib.Core.List.{List, [], ◌++◌, ◌∷◌, append-nil, map}
use mathlib.Core.Logic.{◌⊎◌, inl, inr, ⊎_elim}
use mathlib.Core.Path.{◌∙◌, ◌≡◌, ap, refl, subst, sym}
use Prim.Native.Nat.{◌<◌, suc, zero, ℕ}
use native.Mathlib.Omega.{arith}
use borrow.Author.Tests.{eqb-false, ltb-true}
use lib.Dec.{eqb, ltb}
use lib.ListN.{length}
use Rattle.consensus.specs.Among.{In}
use Rattle.consensus.specs.Candidates.{Falling}
use Rattle.consensus.specs.Leaders.{Agreed, Decision, decide, missing, opens, quiet}
use Rattle.consensus.specs.Listing.{Served, Step, list_all, list_one, serve, steps_of}
use Rattle.consensus.specs.Order.{Called, History, accept, listed, put, refuse, refused, try_commit}
use Rattle.consensus.specs.Table.{Cert, State, clash, highest, holds_pair, insert}
use Rattle.consensus.specs.Walk.{list_under}
use Rattle.demands.specs.Demand.{Commit, Does, Rises, Shares, commits, nothing}
use Rattle.consensus.proofs.Calls.{accept-try, try-missing, try-opens, try-quiet}
use Rattle.consensus.proofs.Decide.{Decides, Opened, decides, is-missing, is_open, is-quiet, opened-rise}
use Rattle.consensus.proofs.Insert.{clash-no, distinct-end, insert-end, insert-in, insert-new, pair-some}
use Rattle.consensus.proofs.Lists.{Distinct, app-in, in_app, in_left, in_right, once-app}
use Rattle.consensus.proofs.Climb.{Climb, level, step-up}
use Rattle.demands.proofs.Between.{heights-map, ok-map}
use Rattle.demands.proofs.Cleared.{gone-map}
use Rattle.demands.proofs.Start.{Hist}
use Rattle.demands.proofs.Turn.{Committed, Served', committed, served}

-- the steps list what is listed, one each

ones-app : (ps qs : List Step) (u w : List Cert) → map (λ (p : Step). p.one) ps ≡ u → map (λ (p : Step). p.one) qs ≡ w → map (λ (p : Step). p.one) (ps ++ qs) ≡ u ++ w
ones-app [] qs u w e f = ap (λ (v : List Cert). v ++ map (λ (p : Step). p.one) qs) e ∙ ap (λ (v : List Cert). u ++ v) f
ones-app (p ∷ ps) qs u w e f =
    ap (λ (v : List Cert). p.one ∷ v) (ones-app ps qs (map (λ (q : Step). q.one) ps) w refl f) ∙ ap (λ (v : List Cert). v ++ w) e

steps-of : (depth : ℕ) (l : Cert) (w : List Cert) (s : State) → map (λ (p : Step). p.one) (steps_of depth l w s) ≡ w
unfolding steps_of
steps-of depth l [] s = refl
steps-of depth l (c ∷ w) s = ap (λ (v : List Cert). c ∷ v) (steps-of depth l w (list_one depth c s))

pub serve-steps : (depth : ℕ) (ls : List Cert) (s : State) → map (λ (p : Step). p.one) (serve depth ls s).steps ≡ (serve depth ls s).list
unfolding serve
serve-steps depth [] s = refl
serve-steps depth (l ∷ ls) s =
    let w : List Cert = list_under depth l s in
    let v : Served = serve depth ls (list_all depth w s) in
    ones-app (steps_of depth l w s) v.steps w v.list (steps-of depth l w s) (serve-steps depth ls (list_all depth w s))

rises-of : (held : List Cert) (b : ℕ) (ls : List Cert) → Climb held b ls → Rises b ls
rises-of held b [] level = tt
rises-of held b (l ∷ ls) (step-up _ h lt r) = (lt, rises-of held l.round ls r)

-- the table with a new pair

abbrev pub taking : History → Cert → State → List Cert → List Step → History
taking h x s w st = record { state = s; accepted = x ∷ h.accepted; listed = h.listed ++ w; steps = h.steps ++ st }

abbrev held_new : History → Cert → History
held_new h x = record { state = put x h.state; accepted = x ∷ h.accepted; listed = h.listed; steps = h.steps }

taken : (a : Agreed) (h : History) (x : Cert) → Hist a h → 0 < x.round → ((c : Cert) → In c h.accepted → Shares c x → ⊥)
    → x.origin < length a.stakes → clash x h.state.held ≡ false → Hist a (held_new h x)
unfolding put
taken a h x H pos new mem no_clash = go (holds_pair x h.state.held) refl
  where
    s : State
    s = h.state

    zero-no : (c : Cert) → c.round ≡ 0 → c.round ≡ x.round → ⊥
    zero-no c z e = omega arith

    apart : (c : Cert) → In c s.held → Shares c x → ⊥
    apart c i p = ⊎_elim (λ q. new c q p) (λ z. zero-no c z p.1) (H.known c i)

    not_listed : In x h.listed → ⊥
    not_listed i = new x (H.were x i) (refl, refl)

    back : (c : Cert) → In c (insert x s.held) → (c ≡ x) ⊎ In c s.held
    back c i = insert-in x s.held c i

    go : (b : Bool) → holds_pair x s.held ≡ b → Hist a (held_new h x)
    go true t = let y = pair-some x s.held t in absurd (apart y.0 y.1 (y.2, y.3))
    go false t =
        let e : insert x s.held ≡ s.held ++ (x ∷ []) = insert-end x s.held t in
        let un : Distinct (s.held ++ (x ∷ [])) = distinct-end x s.held (λ c i z. apart c i (clash-no x s.held no_clash c i z)) H.ok.sane.distinct in
        record {
          ok = record {
            sane = record {
              distinct = rw e un;
              ground = λ c i z. ⊎_elim (λ q. let y : c.round ≡ x.round = ap (λ (v : Cert). v.round) q in absurd (omega arith)) (λ o. H.ok.sane.ground c o z) (back c i);
            };
            member = λ c i. ⊎_elim (λ (q : c ≡ x). let z : c.origin ≡ x.origin = ap (λ (v : Cert). v.origin) q in rw H.size (omega arith)) (λ o. H.ok.member c o) (back c i);
            low = H.ok.low;
            rested = λ c i p. ⊎_elim (λ q. absurd (not_listed (subst (λ (v : Cert). In v h.listed) q p))) (λ o. H.ok.rested c o p) (back c i);
            base = λ c i z. ⊎_elim (λ q. let y : c.round ≡ x.round = ap (λ (v : Cert). v.round) q in absurd (omega arith)) (λ o. H.ok.base c o z) (back c i);
          };
          heights = H.heights;
          once = H.once;
          known = λ c i. ⊎_elim (λ q. inl (inl q)) (λ o. ⊎_elim (λ k. inl (inr k)) (λ z. inr z) (H.known c o)) (back c i);
          were = λ c i. inr (H.were c i);
          kept = λ c i.
              ⊎_elim (λ q. inr (inl (rw q (insert-new x s.held))))
              (λ k. ⊎_elim (λ l. inl l) (λ m. inr (⊎_elim (λ o. inl (rw e (app-in s.held (x ∷ []) c (inl o)))) (λ g. inr g) m)) (H.kept c k)) i;
          size = H.size;
          steps = H.steps;
        }

-- one call

pub data Result (a : Agreed) (h : History) (x : Cert) (r : Called) : Type 1 where
  refusing : (k : ℕ) → r.answer ≡ refused k → r.steps ≡ [] → r.state ≡ h.state → Result a h x r
  accepting : (w : List Cert) → r.answer ≡ listed w → Does a h.state (λ d. In d h.listed) x r → Hist a (taking h x r.state w r.steps) → Result a h x r

abbrev pub Fresh : Agreed → ℕ → History → Cert → Type 0
Fresh a places h x = (w : List Cert) → (accept a places h.state x).answer ≡ listed w → (c : Cert) → In c h.accepted → Shares c x → ⊥

commit-hist : (a : Agreed) (h : History) (x : Cert) (ls : List Cert) → Falling a.candidates → Hist a (held_new h x) → Opened a x.round (put x h.state).last (put x h.state).held ls
    → (v : Served) → v ≡ serve a.depth ls (put x h.state)
    → Commit a x.round (λ d. In d h.listed) (put x h.state) v.list v.steps v.state × Hist a (taking h x v.state v.list v.steps)
commit-hist a h x ls F H⁺ o v ev =
    let s⁺ : State = put x h.state in
    let P : Cert → Type 0 = λ d. In d h.listed in
    let r : Climb s⁺.held (highest s⁺.last) ls = opened-rise a x.round s⁺.last s⁺.held ls F o in
    let C : Committed a.depth s⁺ P v = subst (Committed a.depth s⁺ P) (sym ev) (committed a.depth ls s⁺ P (highest s⁺.last) H⁺.ok (omega arith) r) in
    let S : Served' a.depth ls s⁺ P v =
    subst (Served' a.depth ls s⁺ P) (sym ev) (served a.depth ls s⁺ P (highest s⁺.last) H⁺.ok H⁺.heights (omega arith) r) in
    let w : List Cert = v.list in
    let Q : Cert → Type 0 = λ d. In d (h.listed ++ w) in
    let to : (d : Cert) → In d w ⊎ P d → Q d = λ d q. app-in h.listed w d (⊎_elim (λ i. inr i) (λ i. inl i) q) in
    let fro : (d : Cert) → Q d → In d w ⊎ P d = λ d q. ⊎_elim (λ i. inr i) (λ i. inl i) (in_app h.listed w d q) in (
      record {
        leader = o.opener;
        holds = o.holds;
        round = o.round;
        origin = o.origin;
        above = o.above;
        support = o.support;
        served = ls;
        order = o.order;
        rises = rises-of s⁺.held (highest s⁺.last) ls r;
        turns = S.turns;
      },
      record {
        ok = ok-map v.state (λ d. In d w ⊎ P d) Q fro C.ok;
        heights = heights-map v.state.last (λ d. In d w ⊎ P d) Q to fro S.heights;
        once = once-app h.listed w H⁺.once C.once (λ c l m. C.new c m l);
        known = λ c i. H⁺.known c (C.back c i);
        were = λ c q. ⊎_elim (λ i. H⁺.were c i) (λ i. ⊎_elim (λ k. k) (λ z. let l = C.late c i in absurd (omega arith)) (H⁺.known c (C.were c i))) (in_app h.listed w c q);
        kept = λ c i.
            ⊎_elim (λ l. inl (app-in h.listed w c (inl l)))
            (λ k. inr (⊎_elim
            (λ q. ⊎_elim (λ j. inl j) (λ g. inr (gone-map a.depth (λ d. In d w ⊎ P d) Q v.steps (h.steps ++ v.steps) c to (in_right h.steps v.steps) g)) (S.fates c q))
            (λ g. inr (gone-map a.depth P Q h.steps (h.steps ++ v.steps) c (λ d p. to d (inr p)) (in_left h.steps v.steps) g)) k))
            (H⁺.kept c i);
        size = C.size ∙ H⁺.size;
        steps = ones-app h.steps v.steps h.listed w H⁺.steps (ap (λ (u : Served). map (λ (p : Step). p.one) u.steps) ev ∙ serve-steps a.depth ls s⁺ ∙ sym (ap (λ (u : Served). u.list) ev));
      },
    )

pub step : (a : Agreed) (places : ℕ) (h : History) (x : Cert) → Falling a.candidates → Hist a h → Fresh a places h x → Result a h x (accept a places h.state x)
unfolding accept
step a places h x F H new = go₁ (eqb x.round 0) refl
  where
    s : State
    s = h.state

    R : Called
    R = accept a places s x

    Goal : Type 1
    Goal = Result a h x R

    is : (r : Called) → R ≡ r → Result a h x r → Goal
    is r e g = subst (Result a h x) (sym e) g

    finish : R ≡ try_commit a x.round s (put x s) → 0 < x.round → x.origin < length a.stakes → clash x s.held ≡ false
        → (d : Decision) → decide a x.round (put x s).last (put x s).held ≡ d → Decides a x.round (put x s).last (put x s).held d → Goal
    finish e pos mem no_clash quiet q is-quiet =
        let r : Called = record { answer = listed []; steps = []; state = put x s } in
        let er : R ≡ r = e ∙ try-quiet a x.round s (put x s) q in
        let H⁺ : Hist a (held_new h x) = taken a h x H pos (new [] (ap (λ (v : Called). v.answer) er)) mem no_clash in
        let H' : Hist a (taking h x (put x s) [] []) = rw (append-nil h.listed, append-nil h.steps) H⁺ in
        is r er (accepting [] refl (nothing refl refl refl) H')
    finish e pos mem no_clash missing q is-missing =
        let er : R ≡ refuse 13 s = e ∙ try-missing a x.round s (put x s) q in
        is (refuse 13 s) er (refusing 13 refl refl refl)
    finish e pos mem no_clash (opens ls) q (is_open o) =
        let v : Served = serve a.depth ls (put x s) in
        let r : Called = record { answer = listed v.list; steps = v.steps; state = v.state } in
        let er : R ≡ r = e ∙ try-opens a x.round s (put x s) ls q in
        let H⁺ : Hist a (held_new h x) = taken a h x H pos (new v.list (ap (λ (v : Called). v.answer) er)) mem no_clash in
        let y = commit-hist a h x ls F H⁺ o v refl in
        is r er (accepting v.list refl (commits v.list refl y.0) y.1)

    go₄ : eqb x.round 0 ≡ false → ltb x.origin (length a.stakes) ≡ true → clash x s.held ≡ false
        → (b : Bool) → (holds_pair x s.held || ltb (length s.held) places) ≡ b → Goal
    go₄ t₁ t₂ t₃ false t₄ = is (refuse 12 s) (accept-12 t₁ t₂ t₃ t₄) (refusing 12 refl refl refl)
      where
        accept-12 : eqb x.round 0 ≡ false → ltb x.origin (length a.stakes) ≡ true → clash x s.held ≡ false
            → (holds_pair x s.held || ltb (length s.held) places) ≡ false → R ≡ refuse 12 s
        accept-12 u₁ u₂ u₃ u₄ = rw (u₁, u₂, u₃, u₄, accept)
    go₄ t₁ t₂ t₃ true t₄ =
        let ne = eqb-false x.round 0 t₁ in
        let pos : 0 < x.round = nonzero x.round ne in
        finish (accept-try a places s x t₁ t₂ t₃ t₄) pos (ltb-true x.origin (length a.stakes) t₂) t₃
        (decide a x.round (put x s).last (put x s).held) refl (decides a x.round (put x s).last (put x s).held)
      where
        nonzero : (n : ℕ) → (n ≡ 0 → ⊥) → 0 < n
        nonzero zero f = absurd (f refl)
        nonzero (suc n) f = omega arith

    go₃ : eqb x.round 0 ≡ false → ltb x.origin (length a.stakes) ≡ true → (b : Bool) → clash x s.held ≡ b → Goal
    go₃ t₁ t₂ true t₃ = is (refuse 14 s) (rw (t₁, t₂, t₃, accept)) (refusing 14 refl refl refl)
    go₃ t₁ t₂ false t₃ = go₄ t₁ t₂ t₃ (holds_pair x s.held || ltb (length s.held) places) refl

    go₂ : eqb x.round 0 ≡ false → (b : Bool) → ltb x.origin (length a.stakes) ≡ b → Goal
    go₂ t₁ false t₂ = is (refuse 2 s) (rw (t₁, t₂, accept)) (refusing 2 refl refl refl)
    go₂ t₁ true t₂ = go₃ t₁ t₂ (clash x s.held) refl

    go₁ : (b : Bool) → eqb x.round 0 ≡ b → Goal
    go₁ true t₁ = is (refuse 11 s) (rw (t₁, accept)) (refusing 11 refl refl refl)
    go₁ false t₁ = go₂ t₁ (ltb x.origin (length a.stakes)) refl
