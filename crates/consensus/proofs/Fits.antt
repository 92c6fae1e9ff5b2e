-- The list of a commit is never longer than the table's places, call after call, and the table stays within them. Assumes nothing.
use mathlib.Core.Bool.{Bool, ◌||◌, false, true}
use mathlib.Core.List.{List, [], ◌++◌, ◌∷◌}
use mathlib.Core.Logic.{⊎_elim}
use mathlib.Core.Path.{◌∙◌, ◌≡◌, ap, refl, subst, sym}
use Prim.Native.Nat.{◌<◌, ◌≤◌, suc, suc-le-suc, ℕ}
use native.Mathlib.Omega.{arith}
use borrow.Author.Tests.{ltb-true}
use lib.Dec.{eqb, ltb}
use lib.ListN.{length}
use Rattle.wire.proofs.Laws.{true-not-false}
use Rattle.consensus.specs.Among.{In}
use Rattle.consensus.specs.Candidates.{Falling}
use Rattle.consensus.specs.Leaders.{Agreed, Decision, decide, missing, opens, quiet}
use Rattle.consensus.specs.Listing.{Fate, clear, fate, goes, list_all, list_one, raise, serve, stays}
use Rattle.consensus.specs.Order.{Called, accept, listed, put, refuse, try_commit}
use Rattle.consensus.specs.Table.{Cert, State, clash, highest, holds_pair, insert, same_pair}
use Rattle.consensus.specs.Walk.{list_under}
use Rattle.consensus.proofs.Calls.{accept-try, refused≢listed, try-missing, try-opens, try-quiet}
use Rattle.consensus.proofs.Decide.{Decides, decides, is-missing, is_open, is-quiet, opened-rise}
use Rattle.consensus.proofs.Insert.{insert-end, insert-in}
use Rattle.consensus.proofs.Listing.{all-size, list_back}
use Rattle.consensus.proofs.Size.{serve-fits}

-- any table whose origins are members, within its places: no other sense is asked of it
pub record Fits (a : Agreed) (places : ℕ) (s : State) : Type 0 where
  pub size : length s.last ≡ length a.stakes
  pub member : (c : Cert) → In c s.held → c.origin < length s.last
  pub room : length s.held ≤ places

length-end : (x : Cert) (cs : List Cert) → length (cs ++ (x ∷ [])) ≡ suc (length cs)
length-end x [] = refl
length-end x (c ∷ cs) = ap suc (length-end x cs)

length-insert : (x : Cert) (cs : List Cert) → holds_pair x cs ≡ true → length (insert x cs) ≡ length cs
unfolding insert holds_pair
length-insert x [] e = absurd (true-not-false (sym e))
length-insert x (y ∷ cs) e = go (length-insert x cs) (same_pair y x) refl e
  where
    go : (holds_pair x cs ≡ true → length (insert x cs) ≡ length cs) → (b : Bool) → same_pair y x ≡ b
        → holds_pair x (y ∷ cs) ≡ true → length (insert x (y ∷ cs)) ≡ length (y ∷ cs)
    go ih true t q = rw (t, insert)
    go ih false t q = rw (t, insert) (ap suc (ih (rw (t, holds_pair) at q)))

length-clear : (depth : ℕ) (lasts : List ℕ) (top : ℕ) (cs : List Cert) → length (clear depth lasts top cs) ≤ length cs
unfolding clear
length-clear depth lasts top [] = omega arith
length-clear depth lasts top (c ∷ cs) = go (length-clear depth lasts top cs) (fate depth lasts top c) refl
  where
    go : length (clear depth lasts top cs) ≤ length cs → (f : Fate) → fate depth lasts top c ≡ f → length (clear depth lasts top (c ∷ cs)) ≤ length (c ∷ cs)
    go ih stays t = rw (t, clear) (suc-le-suc ih)
    go ih (goes w) t = rw (t, clear) (omega arith)

length-all : (depth : ℕ) (w : List Cert) (s : State) → length (list_all depth w s).held ≤ length s.held
unfolding list_all list_one
length-all depth [] s = omega arith
length-all depth (c ∷ w) s =
    let a = length-all depth w (list_one depth c s) in
    let b = length-clear depth (raise c s.last) (highest (raise c s.last)) s.held in
    omega arith

serve-state : (a : Agreed) (places : ℕ) (ls : List Cert) (s : State) → Fits a places s → Fits a places (serve a.depth ls s).state
unfolding serve
serve-state a places [] s f = f
serve-state a places (l ∷ ls) s f =
    let w : List Cert = list_under a.depth l s in
    let e = all-size a.depth w s in
    let n = length-all a.depth w s in
    let r = f.room in
    serve-state a places ls (list_all a.depth w s) (record {
      size = e ∙ f.size;
      member = λ c h. rw e (f.member c (list_back a.depth w s c h));
      room = omega arith;
    })

put-fits : (a : Agreed) (places : ℕ) (s : State) (x : Cert) → Fits a places s → x.origin < length a.stakes → (holds_pair x s.held || ltb (length s.held) places) ≡ true
    → Fits a places (put x s)
unfolding put
put-fits a places s x f mem t =
    record {
      size = f.size;
      member = λ c h.
          ⊎_elim (λ e. let z : c.origin ≡ x.origin = ap (λ (v : Cert). v.origin) e in let y = f.size in omega arith) (λ o. f.member c o) (insert-in x s.held c h);
      room = go (holds_pair x s.held) refl t;
    }
  where
    go : (b : Bool) → holds_pair x s.held ≡ b → (holds_pair x s.held || ltb (length s.held) places) ≡ true → length (insert x s.held) ≤ places
    go true p q = let e = length-insert x s.held p in let r = f.room in omega arith
    go false p q =
        let q' : ltb (length s.held) places ≡ true = rw p at q in
        let l = ltb-true (length s.held) places q' in
        let e = ap length (insert-end x s.held p) ∙ length-end x s.held in
        omega arith

-- what a call does to a table that fits
pub record Fitting (a : Agreed) (places : ℕ) (r : Called) : Type 0 where
  pub list : (w : List Cert) → r.answer ≡ listed w → length w ≤ places
  pub state : Fits a places r.state

pub accept-fits : (a : Agreed) → Falling a.candidates → (places : ℕ) (s : State) (x : Cert) → Fits a places s → Fitting a places (accept a places s x)
unfolding accept
accept-fits a F places s x f = go₁ (eqb x.round 0) refl
  where
    R : Called
    R = accept a places s x

    is : (r : Called) → R ≡ r → Fitting a places r → Fitting a places R
    is r e g = subst (Fitting a places) (sym e) g

    no : (k : ℕ) → Fitting a places (refuse k s)
    no k = record { list = λ w e. absurd (refused≢listed e); state = f }

    finish : R ≡ try_commit a x.round s (put x s) → Fits a places (put x s)
        → (d : Decision) → decide a x.round (put x s).last (put x s).held ≡ d → Decides a x.round (put x s).last (put x s).held d → Fitting a places R
    finish e g quiet q is-quiet =
        is (record { answer = listed []; steps = []; state = put x s }) (e ∙ try-quiet a x.round s (put x s) q)
        (record { list = λ w z. let y : ◌≡◌ {A = List Cert} [] w = cc in let n : ◌≡◌ {A = ℕ} 0 (length w) = ap length y in omega arith; state = g })
    finish e g missing q is-missing = is (refuse 13 s) (e ∙ try-missing a x.round s (put x s) q) (no 13)
    finish e g (opens ls) q (is_open o) =
        let s⁺ : State = put x s in
        let v = serve a.depth ls s⁺ in
        let n = serve-fits a.depth ls s⁺ (highest s⁺.last) g.member (omega arith) (opened-rise a x.round s⁺.last s⁺.held ls F o) in
        let r = g.room in
        is (record { answer = listed v.list; steps = v.steps; state = v.state }) (e ∙ try-opens a x.round s (put x s) ls q)
        (record {
          list = λ w z. let y : v.list ≡ w = cc in let m : length v.list ≡ length w = ap length y in omega arith;
          state = serve-state a places ls s⁺ g;
        })

    go₄ : eqb x.round 0 ≡ false → ltb x.origin (length a.stakes) ≡ true → clash x s.held ≡ false
        → (b : Bool) → (holds_pair x s.held || ltb (length s.held) places) ≡ b → Fitting a places R
    go₄ t₁ t₂ t₃ false t₄ = is (refuse 12 s) (rw (t₁, t₂, t₃, t₄, accept)) (no 12)
    go₄ t₁ t₂ t₃ true t₄ =
        finish (accept-try a places s x t₁ t₂ t₃ t₄) (put-fits a places s x f (ltb-true x.origin (length a.stakes) t₂) t₄)
        (decide a x.round (put x s).last (put x s).held) refl (decides a x.round (put x s).last (put x s).held)

    go₃ : eqb x.round 0 ≡ false → ltb x.origin (length a.stakes) ≡ true → (b : Bool) → clash x s.held ≡ b → Fitting a places R
    go₃ t₁ t₂ true t₃ = is (refuse 14 s) (rw (t₁, t₂, t₃, accept)) (no 14)
    go₃ t₁ t₂ false t₃ = go₄ t₁ t₂ t₃ (holds_pair x s.held || ltb (length s.held) places) refl

    go₂ : eqb x.round 0 ≡ false → (b : Bool) → ltb x.origin (length a.stakes) ≡ b → Fitting a places R
    go₂ t₁ false t₂ = is (refuse 2 s) (rw (t₁, t₂, accept)) (no 2)
    go₂ t₁ true t₂ = go₃ t₁ t₂ (clash x s.held) refl

    go₁ : (b : Bool) → eqb x.round 0 ≡ b → Fitting a places R
    go₁ true t₁ = is (refuse 11 s) (rw (t₁, accept)) (no 11)
    go₁ false t₁ = go₂ t₁ (ltb x.origin (length a.stakes)) refl
