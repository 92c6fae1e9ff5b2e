-- Demand 3, over any run; and for both editions. Assumes nothing.
use mathlib.Core.List.{List, [], ◌∷◌}
use mathlib.Core.Logic.{inl, inr, ⊎_elim}
use mathlib.Core.Path.{◌∙◌, ◌≡◌, ap, refl, subst, sym}
use Prim.Native.Nat.{ℕ}
use Rattle.consensus.specs.Among.{In, Once}
use Rattle.consensus.specs.Candidates.{Falling, edition1, edition2}
use Rattle.consensus.specs.Leaders.{Agreed}
use Rattle.consensus.specs.Order.{Answer, Called, History, accept, call, listed, refused, run, start}
use Rattle.consensus.specs.Table.{Cert, State}
use Rattle.demands.specs.Demand.{Apart, Demand, Does, Afterwards, Shares, Start, Statement, refusal}
use Rattle.consensus.proofs.Editions.{falling1, falling2}
use Rattle.demands.proofs.Call.{Fresh, Result, accepting, refusing, step, taking}
use Rattle.demands.proofs.Start.{Hist, begin}

-- a call, as the history notes it

pub call-refused : (a : Agreed) (places : ℕ) (h : History) (x : Cert) (k : ℕ) → (accept a places h.state x).answer ≡ refused k
    → call a places h x ≡ record { state = (accept a places h.state x).state; accepted = h.accepted; listed = h.listed; steps = h.steps }
unfolding call
call-refused a places h x k e = rw (e, call)

pub call-listed : (a : Agreed) (places : ℕ) (h : History) (x : Cert) (w : List Cert) → (accept a places h.state x).answer ≡ listed w
    → call a places h x ≡ taking h x (accept a places h.state x).state w (accept a places h.state x).steps
unfolding call
call-listed a places h x w e = rw (e, call)

apart-fresh : (a : Agreed) (places : ℕ) (h : History) (x : Cert) → Apart (call a places h x).accepted → Fresh a places h x
apart-fresh a places h x ap' w e = (subst (λ (v : History). Apart v.accepted) (call-listed a places h x w e) ap').0

-- earlier acceptances are apart too
apart-before : (a : Agreed) (places : ℕ) (h : History) (x : Cert) → Apart (call a places h x).accepted → Apart h.accepted
apart-before a places h x p = go (accept a places h.state x).answer refl
  where
    go : (r : Answer) → (accept a places h.state x).answer ≡ r → Apart h.accepted
    go (refused k) e = subst (λ (v : History). Apart v.accepted) (call-refused a places h x k e) p
    go (listed w) e = (subst (λ (v : History). Apart v.accepted) (call-listed a places h x w e) p).1

apart-run : (a : Agreed) (places : ℕ) (xs : List Cert) (h : History) → Apart (run a places h xs).accepted → Apart h.accepted
unfolding run
apart-run a places [] h p = p
apart-run a places (x ∷ xs) h p = apart-before a places h x (apart-run a places xs (call a places h x) p)

hist-of : (a : Agreed) (places : ℕ) (h : History) (x : Cert) → Hist a h → Result a h x (accept a places h.state x) → Hist a (call a places h x)
hist-of a places h x H (refusing k e f g) =
    let q : call a places h x ≡ h = call-refused a places h x k e ∙ same g in
    subst (Hist a) (sym q) H
  where
    same : (accept a places h.state x).state ≡ h.state
        → ◌≡◌ {A = History} (record { state = (accept a places h.state x).state; accepted = h.accepted; listed = h.listed; steps = h.steps }) h
    same z = ap (λ (t : State). record { state = t; accepted = h.accepted; listed = h.listed; steps = h.steps }) z
hist-of a places h x H (accepting w e d H') = subst (Hist a) (sym (call-listed a places h x w e)) H'

pub history : (a : Agreed) (places : ℕ) → Falling a.candidates → (xs : List Cert) (h : History) → Hist a h → Apart (run a places h xs).accepted → Hist a (run a places h xs)
unfolding run
history a places F [] h H p = H
history a places F (x ∷ xs) h H p =
    let q : Apart (call a places h x).accepted = apart-run a places xs (call a places h x) p in
    history a places F xs (call a places h x) (hist-of a places h x H (step a places h x F H (apart-fresh a places h x q))) p

does-of : (a : Agreed) (h : History) (x : Cert) (r : Called) → Result a h x r → Does a h.state (λ d. In d h.listed) x r
does-of a h x r (refusing k e f g) = refusal k e f g
does-of a h x r (accepting w e d H) = d

-- among acceptances apart, origin and round say which
apart-same : (xs : List Cert) → Apart xs → (c d : Cert) → In c xs → In d xs → Shares c d → c ≡ d
apart-same [] p c d hc hd e = absurd hc
apart-same (x ∷ xs) p c d (inl q) (inl r) e = q ∙ sym r
apart-same (x ∷ xs) p c d (inl q) (inr r) e =
    absurd (p.0 d r (sym e.0 ∙ ap (λ (v : Cert). v.origin) q, sym e.1 ∙ ap (λ (v : Cert). v.round) q))
apart-same (x ∷ xs) p c d (inr q) (inl r) e = absurd (p.0 c q (e.0 ∙ ap (λ (v : Cert). v.origin) r, e.1 ∙ ap (λ (v : Cert). v.round) r))
apart-same (x ∷ xs) p c d (inr q) (inr r) e = apart-same xs p.1 c d q r e

apart_of : (ls acc : List Cert) → Once ls → ((c : Cert) → In c ls → In c acc) → Apart acc → Apart ls
apart_of [] acc o w p = tt
apart_of (x ∷ ls) acc o w p = (
  (λ c h e. o.0 (subst (λ (v : Cert). In v ls) (apart-same acc p c x (w c (inr h)) (w x (inl refl)) e) h)),
  apart_of ls acc o.1 (λ c h. w c (inr h)) p,
)

pub afterwards-of : (a : Agreed) (h : History) → Apart h.accepted → Hist a h → Afterwards a h
afterwards-of a h p H =
    record {
      once = H.once;
      apart = apart_of h.listed h.accepted H.once H.were p;
      were = H.were;
      heights = H.heights;
      steps = H.steps;
      gone = λ c i nh nl. ⊎_elim (λ l. absurd (nl l)) (λ k. ⊎_elim (λ q. absurd (nh q)) (λ g. g) k) (H.kept c i);
    }

-- demand 3
pub demand : Statement
demand a places ds F st xs x p =
    let h : History = run a places (start ds) xs in
    let H : Hist a h = history a places F xs (start ds) (begin a ds st) (apart-before a places h x p) in
    let r : Result a h x (accept a places h.state x) = step a places h x F H (apart-fresh a places h x p) in
    record { does = does-of a h x (accept a places h.state x) r; afterwards = afterwards-of a (call a places h x) p (hist-of a places h x H r) }

pub demand1 : (stakes : List ℕ) (depth places : ℕ) (ds : List (List ℕ)) → let a : Agreed = record { stakes = stakes; depth = depth; candidates = edition1 } in
    Start a ds → (xs : List Cert) (x : Cert) → Apart (call a places (run a places (start ds) xs) x).accepted → Demand a places (run a places (start ds) xs) x
demand1 stakes depth places ds st xs x p = demand (record { stakes = stakes; depth = depth; candidates = edition1 }) places ds falling1 st xs x p

pub demand2 : (stakes : List ℕ) (depth places : ℕ) (ds : List (List ℕ)) → let a : Agreed = record { stakes = stakes; depth = depth; candidates = edition2 } in
    Start a ds → (xs : List Cert) (x : Cert) → Apart (call a places (run a places (start ds) xs) x).accepted → Demand a places (run a places (start ds) xs) x
demand2 stakes depth places ds st xs x p = demand (record { stakes = stakes; depth = depth; candidates = edition2 }) places ds falling2 st xs x p
