-- Refusals may be settled before the certificate is put in: the decision reads no round at or above the new one's. Assumes nothing.
use mathlib.Core.Bool.{Bool, ◌&&◌, ◌||◌, false, true}
use mathlib.Core.List.{List, [], ◌∷◌}
use mathlib.Core.Logic.{inl, inr}
use mathlib.Core.Path.{◌∙◌, ◌≡◌, ap, refl, sym}
use Prim.Native.Nat.{◌%◌, ◌+◌, ◌-◌, ◌<◌, ◌≤◌, suc, zero, ℕ}
use native.Mathlib.Omega.{arith}
use borrow.Author.Tests.{eqb-true, leb-true, ne_eqb}
use lib.Dec.{eqb, leb, ltb}
use lib.ListN.{length}
use Rattle.config.proofs.Laws.{both}
use Rattle.config.specs.Committee.{leader_place, validity}
use Rattle.consensus.specs.Among.{In}
use Rattle.consensus.specs.Candidates.{Falling}
use Rattle.consensus.specs.Leaders.{Agreed, Hit, Link, absent, by_origin, decide, decided, followed, gap, leader, leaders_from, link, linked, missing, opens, present, quiet, stake_naming, total_stake}
use Rattle.consensus.specs.Listing.{serve}
use Rattle.consensus.specs.Order.{accept, listed, put, refuse}
use Rattle.consensus.specs.Table.{Cert, State, clash, highest, holds_pair, insert, is_empty, of_round, same_pair}
use Rattle.consensus.proofs.Calls.{accept-try, try-missing, try-opens, try-quiet}
use Rattle.consensus.proofs.Decide.{leader-is}

pub round-insert : (x : Cert) (q : ℕ) → (x.round ≡ q → ⊥) → (cs : List Cert) → of_round q (insert x cs) ≡ of_round q cs
unfolding of_round insert
round-insert x q n [] = rw (ne_eqb x.round q n, of_round)
round-insert x q n (y ∷ cs) = go (round-insert x q n cs) (same_pair y x) refl (eqb y.round q) refl
  where
    go : of_round q (insert x cs) ≡ of_round q cs → (b : Bool) → same_pair y x ≡ b → (d : Bool) → eqb y.round q ≡ d
        → of_round q (insert x (y ∷ cs)) ≡ of_round q (y ∷ cs)
    go ih true t true u =
        let z = eqb-true y.round x.round (both (eqb y.origin x.origin) (eqb y.round x.round) t).1 in
        absurd (n (sym z ∙ eqb-true y.round q u))
    go ih true t false u = rw (t, u, insert, of_round) (rw (ne_eqb x.round q n))
    go ih false t true u = rw (t, u, insert, of_round) (ap (λ (v : List Cert). y ∷ v) ih)
    go ih false t false u = rw (t, u, insert, of_round) ih

-- two tables that agree below m
abbrev pub Agree : ℕ → List Cert → List Cert → Type 0
Agree m h h' = (q : ℕ) → q < m → of_round q h ≡ of_round q h'

pub leader-agree : (a : Agreed) (m : ℕ) (h h' : List Cert) → Agree m h h' → (r : ℕ) → r < m → leader a r h ≡ leader a r h'
unfolding leader
leader-agree a m h h' g r lt = ap (by_origin (leader_place (length a.stakes) r)) (g r lt)

pub linked-agree : (m : ℕ) (h h' : List Cert) → Agree m h h' → (n r : ℕ) (d : List ℕ) (front : List Cert) → r + n ≤ m → linked n r d front h ≡ linked n r d front h'
unfolding linked
linked-agree m h h' g zero r d front le = refl
linked-agree m h h' g (suc n) r d front le =
    go (λ f. linked-agree m h h' g n r d f (omega arith)) (g (r + n) (omega arith)) (is_empty (of_round (r + n) h)) refl
  where
    go : ((f : List Cert) → linked n r d f h ≡ linked n r d f h') → of_round (r + n) h ≡ of_round (r + n) h' → (b : Bool) → is_empty (of_round (r + n) h) ≡ b
        → linked (suc n) r d front h ≡ linked (suc n) r d front h'
    go ih e true t = let t' : is_empty (of_round (r + n) h') ≡ true = ap is_empty (sym e) ∙ t in rw (t, t', linked)
    go ih e false t =
        let t' : is_empty (of_round (r + n) h') ≡ false = ap is_empty (sym e) ∙ t in
        let p : linked n r d (followed front (of_round (r + n) h)) h ≡ linked n r d (followed front (of_round (r + n) h')) h' =
        ih (followed front (of_round (r + n) h)) ∙ ap (λ (v : List Cert). linked n r d (followed front v) h') e in
        rw (t, t', linked) p

pub leaders-agree : (a : Agreed) (m : ℕ) (h h' : List Cert) → Agree m h h' → (rs : List ℕ) → ((r : ℕ) → In r rs → r < m) → (u : Cert) → u.round ≤ m → (us : List Cert)
    → leaders_from a h u us rs ≡ leaders_from a h' u us rs
unfolding leaders_from
leaders-agree a m h h' g [] b u lu us = refl
leaders-agree a m h h' g (r ∷ rs) b u lu us =
    go (λ v lv vs. leaders-agree a m h h' g rs (λ q i. b q (inr i)) v lv vs) (leader a r h) refl
  where
    IH : Type 0
    IH = (v : Cert) → v.round ≤ m → (vs : List Cert) → leaders_from a h v vs rs ≡ leaders_from a h' v vs rs

    lt : r < m
    lt = b r (inl refl)

    same : leader a r h ≡ leader a r h'
    same = leader-agree a m h h' g r lt

    go₂ : IH → (c : Cert) → leader a r h ≡ present c → leader a r h' ≡ present c → (k : Link) → linked (u.round - r) r c.digest (u ∷ []) h ≡ k
        → linked (u.round - r) r c.digest (u ∷ []) h' ≡ k → leaders_from a h u us (r ∷ rs) ≡ leaders_from a h' u us (r ∷ rs)
    go₂ ih c t t' gap f f' = rw (t, t', f, f', leaders_from)
    go₂ ih c t t' (link true) f f' =
        let e = (leader-is a r h c t).1 in
        let p : r < m = lt in
        let lc : c.round ≤ m = omega arith in
        rw (t, t', f, f', leaders_from) (ih c lc (c ∷ us))
    go₂ ih c t t' (link false) f f' = rw (t, t', f, f', leaders_from) (ih u lu us)

    go : IH → (k : Hit) → leader a r h ≡ k → leaders_from a h u us (r ∷ rs) ≡ leaders_from a h' u us (r ∷ rs)
    go ih absent t = let t' : leader a r h' ≡ absent = sym same ∙ t in rw (t, t', leaders_from) (ih u lu us)
    go ih (present c) t =
        let t' : leader a r h' ≡ present c = sym same ∙ t in
        let p : r < m = lt in
        let n : r + (u.round - r) ≤ m = omega arith in
        go₂ ih c t t' (linked (u.round - r) r c.digest (u ∷ []) h) refl (sym (linked-agree m h h' g (u.round - r) r c.digest (u ∷ []) n))

pub decide-agree : (a : Agreed) → Falling a.candidates → (n : ℕ) (last : List ℕ) (h h' : List Cert) → Agree n h h' → decide a n last h ≡ decide a n last h'
unfolding decide
decide-agree a F n last h h' g = go (eqb (n % 2) 1 && leb 5 n && ltb (highest last) (n - 3)) refl
  where
    t : Bool
    t = eqb (n % 2) 1 && leb 5 n && ltb (highest last) (n - 3)

    Goal : Type 0
    Goal = decide a n last h ≡ decide a n last h'

    five : t ≡ true → 5 ≤ n
    five e = leb-true 5 n (both (eqb (n % 2) 1) (leb 5 n) (both (eqb (n % 2) 1 && leb 5 n) (ltb (highest last) (n - 3)) e).0).1

    go₃ : t ≡ true → (l : Cert) → leader a (n - 3) h ≡ present l → leader a (n - 3) h' ≡ present l → of_round (n - 2) h ≡ of_round (n - 2) h'
        → leaders_from a h l (l ∷ []) (a.candidates (n - 3) (highest last)) ≡ leaders_from a h' l (l ∷ []) (a.candidates (n - 3) (highest last)) → Goal
    go₃ t₁ l t₂ t₂' eo el = go₄ (is_empty (of_round (n - 2) h)) refl
      where
        E : List Cert → Bool
        E v = is_empty v

        S : List Cert → Bool
        S v = ltb (stake_naming a.stakes l.digest v) (validity (total_stake a.stakes))

        go₅ : E (of_round (n - 2) h) ≡ false → (b : Bool) → S (of_round (n - 2) h) ≡ b → Goal
        go₅ t₃ true t₄ = let t₃' = ap E (sym eo) ∙ t₃ in let t₄' = ap S (sym eo) ∙ t₄ in rw (t₁, t₂, t₂', t₃, t₃', t₄, t₄', decide)
        go₅ t₃ false t₄ = let t₃' = ap E (sym eo) ∙ t₃ in let t₄' = ap S (sym eo) ∙ t₄ in rw (t₁, t₂, t₂', t₃, t₃', t₄, t₄', decide) (ap decided el)

        go₄ : (b : Bool) → E (of_round (n - 2) h) ≡ b → Goal
        go₄ true t₃ = let t₃' = ap E (sym eo) ∙ t₃ in rw (t₁, t₂, t₂', t₃, t₃', decide)
        go₄ false t₃ = go₅ t₃ (S (of_round (n - 2) h)) refl

    go₂ : t ≡ true → 5 ≤ n → (k : Hit) → leader a (n - 3) h ≡ k → Goal
    go₂ t₁ f absent t₂ =
        let t₂' : leader a (n - 3) h' ≡ absent = sym (leader-agree a n h h' g (n - 3) (omega arith)) ∙ t₂ in rw (t₁, t₂, t₂', decide)
    go₂ t₁ f (present l) t₂ =
        let t₂' : leader a (n - 3) h' ≡ present l = sym (leader-agree a n h h' g (n - 3) (omega arith)) ∙ t₂ in
        let el : l.round ≡ n - 3 = (leader-is a (n - 3) h l t₂).1 in
        go₃ t₁ l t₂ t₂' (g (n - 2) (omega arith))
        (leaders-agree a n h h' g (a.candidates (n - 3) (highest last)) (λ r i. let y = F.below (n - 3) (highest last) r i in omega arith) l (omega arith) (l ∷ []))

    go : (b : Bool) → t ≡ b → Goal
    go false t₁ = rw (t₁, decide)
    go true t₁ = go₂ t₁ (five t₁) (leader a (n - 3) h) refl

pub settle : (a : Agreed) → Falling a.candidates → (x : Cert) (last : List ℕ) (held : List Cert)
    → decide a x.round last (insert x held) ≡ decide a x.round last held
settle a F x last held = decide-agree a F x.round last (insert x held) held (λ q lt. round-insert x q (λ e. omega arith) held)

-- as the code has it: decide on the table before, then put in
pub settle-put : (a : Agreed) → Falling a.candidates → (x : Cert) (s : State)
    → decide a x.round (put x s).last (put x s).held ≡ decide a x.round s.last s.held
unfolding put
settle-put a F x s = settle a F x s.last s.held

module _ (a : Agreed) (F : Falling a.candidates) (places : ℕ) (s : State) (x : Cert)
    (t₁ : eqb x.round 0 ≡ false) (t₂ : ltb x.origin (length a.stakes) ≡ true) (t₃ : clash x s.held ≡ false)
    (t₄ : (holds_pair x s.held || ltb (length s.held) places) ≡ true) where
  pub settled-quiet : decide a x.round s.last s.held ≡ quiet → accept a places s x ≡ record { answer = listed []; steps = []; state = put x s }
  settled-quiet e = accept-try a places s x t₁ t₂ t₃ t₄ ∙ try-quiet a x.round s (put x s) (settle-put a F x s ∙ e)

  pub settled-missing : decide a x.round s.last s.held ≡ missing → accept a places s x ≡ refuse 13 s
  settled-missing e = accept-try a places s x t₁ t₂ t₃ t₄ ∙ try-missing a x.round s (put x s) (settle-put a F x s ∙ e)

  pub settled-opens : (ls : List Cert) → decide a x.round s.last s.held ≡ opens ls
      → accept a places s x
      ≡ record { answer = listed (serve a.depth ls (put x s)).list; steps = (serve a.depth ls (put x s)).steps; state = (serve a.depth ls (put x s)).state }
  settled-opens ls e = accept-try a places s x t₁ t₂ t₃ t₄ ∙ try-opens a x.round s (put x s) ls (settle-put a F x s ∙ e)
