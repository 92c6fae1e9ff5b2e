-- What the ordering's definitions say of each course. Assumes nothing.
use mathlib.Core.Path.{◌≡◌, refl, sym, ap, ◌∙◌, subst}
use mathlib.Core.Bool.{Bool, true, false, not, ◌&&◌, ◌||◌}
use mathlib.Core.List.{List, [], ◌∷◌}
use Prim.Native.Nat.{ℕ, ◌≤◌}
use native.Mathlib.Omega.{arith}
use lib.Dec.{eqb, ltb}
use lib.ListN.{length, length-append}
use Rattle.wire.specs.Bytes.{alike}
use Rattle.consensus.specs.Candidates.{Falling}
use Rattle.consensus.specs.Table.{Cert, State, clash, holds_pair, same_pair, highest}
use Rattle.consensus.specs.Leaders.{Agreed, Decision, decide, quiet, missing, opens}
use Rattle.consensus.specs.Walk.{list_under}
use Rattle.consensus.specs.Listing.{list_all, serve}
use Rattle.consensus.specs.Order.{accept, listed, put, refuse}
use Rattle.consensus.proofs.Climb.{Climb, step-up}
use Rattle.consensus.proofs.ClearOnce.{under_some}
use Rattle.consensus.proofs.Find.{find-some}
use Rattle.consensus.proofs.Settle.{settled-quiet, settled-missing, settled-opens, settle-put}
use Rattle.leaders.specs.Setup.{kind_of}
use Rattle.accept.specs.Course.{course_of}
use Rattle.std.specs.Prelude.{Result, Ok, Err}
use Rattle.refusal.specs.Answers.{Answer, number_of}
use Rattle.refusal.specs.declared.Refusal.{Refusal}
use Rattle.refusal.specs.declared.Refusal.TheVariants.{NoRoom, HistoryMissing, DigestClash}
use Rattle.accept.specs.Accept.{refusal}

-- ---- parents play no part in the course

abbrev bare : Cert → Cert
bare x = record { origin = x.origin; round = x.round; digest = x.digest; parents = [] }

clash-bare : (x : Cert) (cs : List Cert) → clash (bare x) cs ≡ clash x cs
unfolding clash same_pair
clash-bare x [] = refl
clash-bare x (c ∷ cs) = go (clash-bare x cs) (alike c.digest x.digest && not (eqb c.origin x.origin && eqb c.round x.round)) refl
  where
    go : clash (bare x) cs ≡ clash x cs → (b : Bool) → (alike c.digest x.digest && not (eqb c.origin x.origin && eqb c.round x.round)) ≡ b → clash (bare x) (c ∷ cs) ≡ clash x (c ∷ cs)
    go ih true q = rw (q, clash)
    go ih false q = rw (q, clash) ih

holds-bare : (x : Cert) (cs : List Cert) → holds_pair (bare x) cs ≡ holds_pair x cs
unfolding holds_pair same_pair
holds-bare x [] = refl
holds-bare x (c ∷ cs) = go (holds-bare x cs) (eqb c.origin x.origin && eqb c.round x.round) refl
  where
    go : holds_pair (bare x) cs ≡ holds_pair x cs → (b : Bool) → (eqb c.origin x.origin && eqb c.round x.round) ≡ b → holds_pair (bare x) (c ∷ cs) ≡ holds_pair x (c ∷ cs)
    go ih true q = rw (q, holds_pair)
    go ih false q = rw (q, holds_pair) ih

pub course-bare : (a : Agreed) (places : ℕ) (s : State) (x : Cert) → course_of a places s (record { origin = x.origin; round = x.round; digest = x.digest; parents = [] }) ≡ course_of a places s x
unfolding course_of
course-bare a places s x = cut (clash (bare x) s.held) (holds_pair (bare x) s.held) (clash-bare x s.held) (holds-bare x s.held)
  where
    course : Bool → Bool → Result Bool Refusal
    course c h = elim c [ true ↦ Err DigestClash | false ↦ elim (h || ltb (length s.held) places) [ false ↦ Err NoRoom | true ↦ kind_of (decide a x.round s.last s.held) ] ]

    cut : (c h : Bool) → c ≡ clash x s.held → h ≡ holds_pair x s.held → course c h ≡ course (clash x s.held) (holds_pair x s.held)
    cut c h p q = ap (λ (v : Bool). course v h) p ∙ ap (course (clash x s.held)) q

-- ---- the outcome

module _ (a : Agreed) (F : Falling a.candidates) (places : ℕ) (s : State) (x : Cert) (t₁ : eqb x.round 0 ≡ false) (t₂ : ltb x.origin (length a.stakes) ≡ true) where
  abbrev room : Bool
  room = holds_pair x s.held || ltb (length s.held) places

  -- a commit: there is room, and the decision opens, before as after the certificate is put in
  pub record Opened : Type 0 where
    pub place : (holds_pair x s.held || ltb (length s.held) places) ≡ true
    pub leaders : List Cert
    pub decided : decide a x.round (put x s).last (put x s).held ≡ opens leaders
    pub called : accept a places s x
        ≡ record { answer = listed (serve a.depth leaders (put x s)).list; steps = (serve a.depth leaders (put x s)).steps; state = (serve a.depth leaders (put x s)).state }

  pub record Holds : Type 0 where
    pub place : (holds_pair x s.held || ltb (length s.held) places) ≡ true
    pub called : accept a places s x ≡ record { answer = listed []; steps = []; state = put x s }

  -- a refusal: its number, which names it
  pub record Refused (e : Refusal) : Type 0 where
    pub called : accept a places s x ≡ refuse (number_of e) s
    pub named : ◌≡◌ {A = Answer} (Err e) (refusal (number_of e))

  abbrev pub Outcome : Result Bool Refusal → Type 0
  Outcome (Err e) = Refused e
  Outcome (Ok false) = Holds
  Outcome (Ok true) = Opened

  clashes : clash x s.held ≡ true → accept a places s x ≡ refuse 14 s
  unfolding accept
  clashes c = rw (t₁, t₂, c, accept)

  full : clash x s.held ≡ false → room ≡ false → accept a places s x ≡ refuse 12 s
  unfolding accept
  full c r = rw (t₁, t₂, c, r, accept)

  pub outcome : (k : Result Bool Refusal) → k ≡ course_of a places s x → Outcome k
  unfolding course_of refusal
  outcome k e = go (clash x s.held) refl
    where
      is : (c : Result Bool Refusal) → course_of a places s x ≡ c → Outcome c → Outcome k
      is c q o = subst Outcome (sym (e ∙ q)) o

      go₂ : clash x s.held ≡ false → room ≡ true → (d : Decision) → decide a x.round s.last s.held ≡ d → Outcome k
      go₂ c r quiet d = is (Ok false) (rw (c, r, course_of) (ap (λ (v : Decision). kind_of v) d)) (record { place = r; called = settled-quiet a F places s x t₁ t₂ c r d })
      go₂ c r missing d = is (Err HistoryMissing) (rw (c, r, course_of) (ap (λ (v : Decision). kind_of v) d)) (record { called = settled-missing a F places s x t₁ t₂ c r d; named = refl })
      go₂ c r (opens ls) d =
          is (Ok true) (rw (c, r, course_of) (ap (λ (v : Decision). kind_of v) d))
          (record { place = r; leaders = ls; decided = settle-put a F x s ∙ d; called = settled-opens a F places s x t₁ t₂ c r ls d })

      go₁ : clash x s.held ≡ false → (b : Bool) → room ≡ b → Outcome k
      go₁ c false r = is (Err NoRoom) (rw (c, r, course_of)) (record { called = full c r; named = refl })
      go₁ c true r = go₂ c r (decide a x.round s.last s.held) refl

      go : (b : Bool) → clash x s.held ≡ b → Outcome k
      go true c = is (Err DigestClash) (rw (c, course_of)) (record { called = clashes c; named = refl })
      go false c = go₁ c (holds_pair x s.held || ltb (length s.held) places) refl

-- ---- a commit lists something

pub serve-some : (depth : ℕ) (ls : List Cert) (s : State) (b : ℕ) → (ls ≡ [] → ⊥) → highest s.last ≤ b → Climb s.held b ls → 1 ≤ length (serve depth ls s).list
unfolding serve
serve-some depth [] s b n h c = absurd (n refl)
serve-some depth (l ∷ ls) s b n h (step-up _ i lt r) =
    let w : List Cert = list_under depth l s in
    let m = under_some depth l s (find-some l.round l.digest s.held l i refl refl) (omega arith) in
    let k = length-append w (serve depth ls (list_all depth w s)).list in
    let p = some w m in
    omega arith
  where
    some : (w : List Cert) → (w ≡ [] → ⊥) → 1 ≤ length w
    some [] q = absurd (q refl)
    some (c ∷ w) q = omega arith

-- a stranger's
pub strange : (a : Agreed) (places : ℕ) (s : State) (x : Cert) → eqb x.round 0 ≡ false → ltb x.origin (length a.stakes) ≡ false → accept a places s x ≡ refuse 2 s
unfolding accept
strange a places s x t₁ t₂ = rw (t₁, t₂, accept)
