-- Clearing once a turn, and once in all: the leaders to come stay leaders, and a commit's table is one clearing of the first. Assumes nothing.
use mathlib.Core.Bool.{Bool, false, true}
use mathlib.Core.List.{List, [], ◌++◌, ◌∷◌, append_assoc, append-nil}
use mathlib.Core.Logic.{inl, inr}
use mathlib.Core.Path.{◌∙◌, ◌≡◌, ap, refl, sym}
use Prim.Native.Nat.{◌+◌, ◌<◌, ◌≤◌, ℕ}
use native.Mathlib.Omega.{arith}
use borrow.Author.Tests.{eqb-true}
use lib.Dec.{eqb}
use lib.ListN.{get_or, length, length-append}
use Rattle.config.specs.Committee.{leader_place}
use Rattle.consensus.specs.Among.{In}
use Rattle.consensus.specs.Leaders.{Agreed, by_origin, leader, present}
use Rattle.consensus.specs.Listing.{Fate, Served, clear, fate, goes, list_all, list_one, raise, serve, stays}
use Rattle.consensus.specs.Table.{Cert, State, highest, of_round}
use Rattle.consensus.specs.Walk.{list_under}
use Rattle.consensus.proofs.ClearOnce.{clear-clear, raise-all-le, raise_all, turn-once}
use Rattle.consensus.proofs.Climb.{Climb, climb-stays, level, step-up}
use Rattle.consensus.proofs.Listing.{all-size, highest-ge, list_back, stays-when, stays≢goes}
use Rattle.consensus.proofs.Size.{turn-size}

-- ---- a round's leader stays its leader, if it stays

by-clear : (depth : ℕ) (last : List ℕ) (top o r : ℕ) (l : Cert) → fate depth last top l ≡ stays → (cs : List Cert) → by_origin o (of_round r cs) ≡ present l
    → by_origin o (of_round r (clear depth last top cs)) ≡ present l
unfolding by_origin of_round clear
by-clear depth last top o r l s [] e = e
by-clear depth last top o r l s (x ∷ cs) e = go (by-clear depth last top o r l s cs) (fate depth last top x) refl (eqb x.round r) refl (eqb x.origin o) refl e
  where
    C : List Cert
    C = clear depth last top cs

    go : (by_origin o (of_round r cs) ≡ present l → by_origin o (of_round r C) ≡ present l) → (f : Fate) → fate depth last top x ≡ f
        → (b : Bool) → eqb x.round r ≡ b → (d : Bool) → eqb x.origin o ≡ d → by_origin o (of_round r (x ∷ cs)) ≡ present l
        → by_origin o (of_round r (clear depth last top (x ∷ cs))) ≡ present l
    go ih stays t false u d w q = rw (t, clear) (rw (u, of_round) (ih (rw (u, of_round) at q)))
    go ih stays t true u true w q =
        let q' : present x ≡ present l = rw (w, by_origin) at (rw (u, of_round) at q) in
        rw (t, clear) (rw (u, of_round) (rw (w, by_origin) q'))
    go ih stays t true u false w q = rw (t, clear) (rw (u, of_round) (rw (w, by_origin) (ih (rw (w, by_origin) at (rw (u, of_round) at q)))))
    go ih (goes v) t false u d w q = rw (t, clear) (ih (rw (u, of_round) at q))
    go ih (goes v) t true u true w q =
        let q' : present x ≡ present l = rw (w, by_origin) at (rw (u, of_round) at q) in
        let z : x ≡ l = cc in
        absurd (stays≢goes (sym s ∙ ap (fate depth last top) (sym z) ∙ t))
    go ih (goes v) t true u false w q = rw (t, clear) (ih (rw (w, by_origin) at (rw (u, of_round) at q)))

pub leader-clear : (a : Agreed) (depth : ℕ) (last : List ℕ) (top r : ℕ) (l : Cert) (held : List Cert) → fate depth last top l ≡ stays → leader a r held ≡ present l
    → leader a r (clear depth last top held) ≡ present l
unfolding leader
leader-clear a depth last top r l held s e = by-clear depth last top (leader_place (length a.stakes) r) r l s held e

-- a round above the last committed ones stays whole
pub round-clear : (depth : ℕ) (last : List ℕ) (r : ℕ) (held : List Cert) → highest last ≤ r → of_round r (clear depth last (highest last) held) ≡ of_round r held
unfolding of_round clear
round-clear depth last r [] h = refl
round-clear depth last r (x ∷ cs) h = go (round-clear depth last r cs h) (fate depth last (highest last) x) refl (eqb x.round r) refl
  where
    C : List Cert
    C = clear depth last (highest last) cs

    go : of_round r C ≡ of_round r cs → (f : Fate) → fate depth last (highest last) x ≡ f → (b : Bool) → eqb x.round r ≡ b
        → of_round r (clear depth last (highest last) (x ∷ cs)) ≡ of_round r (x ∷ cs)
    go ih stays t true u = rw (t, clear) (rw (u, of_round) (ap (λ (v : List Cert). x ∷ v) ih))
    go ih stays t false u = rw (t, clear) (rw (u, of_round) ih)
    go ih (goes w) t true u =
        let z = eqb-true x.round r u in
        let g = highest-ge last x.origin in
        absurd (stays≢goes (sym (stays-when depth last (highest last) x (omega arith) (omega arith)) ∙ t))
    go ih (goes w) t false u = rw (t, clear, u, of_round) ih

-- ---- the last committed rounds of a list, and of a commit

pub all-last : (depth : ℕ) (w : List Cert) (s : State) → (list_all depth w s).last ≡ raise_all w s.last
unfolding list_all list_one raise_all
all-last depth [] s = refl
all-last depth (c ∷ w) s = all-last depth w (list_one depth c s)

pub raise-append : (v w : List Cert) (last : List ℕ) → raise_all (v ++ w) last ≡ raise_all w (raise_all v last)
unfolding raise_all
raise-append [] w last = refl
raise-append (c ∷ v) w last = raise-append v w (raise c last)

-- a commit raises by its whole list
pub serve-last : (depth : ℕ) (ls : List Cert) (s : State) → (serve depth ls s).state.last ≡ raise_all (serve depth ls s).list s.last
unfolding serve raise_all
serve-last depth [] s = refl
serve-last depth (l ∷ ls) s =
    let w : List Cert = list_under depth l s in
    let s' : State = list_all depth w s in
    serve-last depth ls s' ∙ ap (raise_all (serve depth ls s').list) (all-last depth w s) ∙ sym (raise-append w (serve depth ls s').list s.last)

pub serve-le : (depth : ℕ) (ls : List Cert) (s : State) (o : ℕ) → get_or s.last o 0 ≤ get_or (serve depth ls s).state.last o 0
serve-le depth ls s o = rw (serve-last depth ls s) (raise-all-le (serve depth ls s).list s.last o)

-- ---- one turn: what it leaves

module _ (depth : ℕ) (s : State) (l : Cert) (mem : (c : Cert) → In c s.held → c.origin < length s.last) (hl : In l s.held) (up : highest s.last < l.round) where
  pub turn_last : (list_all depth (list_under depth l s) s).last ≡ raise_all (list_under depth l s) s.last
  turn_last = all-last depth (list_under depth l s) s

  -- cleared once, by the last committed rounds after it
  pub turn-held : (list_all depth (list_under depth l s) s).held
      ≡ clear depth (list_all depth (list_under depth l s) s).last (highest (list_all depth (list_under depth l s) s).last) s.held
  turn-held =
      ap (λ (v : State). v.held) (turn-once depth l s hl (omega arith))
      ∙ ap (λ (v : List ℕ). clear depth v (highest v) s.held) (sym turn_last)

  pub turn-high : highest (list_all depth (list_under depth l s) s).last ≤ l.round
  turn-high = (turn-size depth s l mem hl up).within.high

  pub turn-member : (c : Cert) → In c (list_all depth (list_under depth l s) s).held → c.origin < length (list_all depth (list_under depth l s) s).last
  turn-member c h = rw (all-size depth (list_under depth l s) s) (mem c (list_back depth (list_under depth l s) s c h))

  -- a round not below the leader's stays whole, and so does its leader
  pub turn-round : (r : ℕ) → l.round ≤ r → of_round r (list_all depth (list_under depth l s) s).held ≡ of_round r s.held
  turn-round r h =
      let k = turn-high in
      ap (of_round r) turn-held ∙ round-clear depth (list_all depth (list_under depth l s) s).last r s.held (omega arith)

  pub turn-leader : (a : Agreed) (r : ℕ) → l.round ≤ r → leader a r (list_all depth (list_under depth l s) s).held ≡ leader a r s.held
  unfolding leader
  turn-leader a r h = ap (by_origin (leader_place (length a.stakes) r)) (turn-round r h)

  pub turn-leads : (a : Agreed) (c : Cert) → l.round ≤ c.round → leader a c.round s.held ≡ present c
      → leader a c.round (list_all depth (list_under depth l s) s).held ≡ present c
  turn-leads a c h e = turn-leader a c.round h ∙ e

  -- the leaders to come still rise
  pub turn-climb : (b : ℕ) (ls : List Cert) → l.round ≤ b → Climb s.held b ls → Climb (list_all depth (list_under depth l s) s).held b ls
  turn-climb b ls h r = climb-stays depth (list_under depth l s) s l.round ls (turn-size depth s l mem hl up).within b h r

-- ---- a whole commit is one clearing

climb-lower : (held : List Cert) (b b' : ℕ) (ls : List Cert) → b' ≤ b → Climb held b ls → Climb held b' ls
climb-lower held b b' [] h level = level
climb-lower held b b' (c ∷ cs) h (step-up _ i l r) = step-up {b = b'} c i (omega arith) r

clear_whole : (depth : ℕ) (l : Cert) (ls : List Cert) (s : State) (b : ℕ) → ((c : Cert) → In c s.held → c.origin < length s.last) → highest s.last ≤ b
    → Climb s.held b (l ∷ ls)
    → (serve depth (l ∷ ls) s).state.held ≡ clear depth (serve depth (l ∷ ls) s).state.last (highest (serve depth (l ∷ ls) s).state.last) s.held
unfolding serve
clear_whole depth l [] s b mem h (step-up _ hl lt r) = turn-held depth s l mem hl (omega arith)
clear_whole depth l (k ∷ ls) s b mem h (step-up _ hl lt r) =
    let up : highest s.last < l.round = omega arith in
    let s' : State = list_all depth (list_under depth l s) s in
    let v : List ℕ = (serve depth (k ∷ ls) s').state.last in
    clear_whole depth k ls s' l.round (turn-member depth s l mem hl up) (turn-high depth s l mem hl up) (turn-climb depth s l mem hl up l.round (k ∷ ls) (omega arith) r)
    ∙ ap (clear depth v (highest v)) (turn-held depth s l mem hl up) ∙ clear-clear depth s'.last v (serve-le depth (k ∷ ls) s') s.held

pub serve-clear : (depth : ℕ) (ls : List Cert) (s : State) (b : ℕ) → ((c : Cert) → In c s.held → c.origin < length s.last) → highest s.last ≤ b
    → Climb s.held b ls → (ls ≡ [] → ⊥)
    → (serve depth ls s).state.held ≡ clear depth (serve depth ls s).state.last (highest (serve depth ls s).state.last) s.held
serve-clear depth [] s b mem h r n = absurd (n refl)
serve-clear depth (l ∷ ls) s b mem h r n = clear_whole depth l ls s b mem h r

-- ---- serving, turn by turn: out is what is listed so far, s the state, ls the leaders to come

pub record Serving (a : Agreed) (depth : ℕ) (whole : Served) (s : State) (out ls : List Cert) : Type 0 where
  pub member : (c : Cert) → In c s.held → c.origin < length s.last
  pub rises : Climb s.held (highest s.last) ls
  pub leads : (c : Cert) → In c ls → leader a c.round s.held ≡ present c
  pub list : out ++ (serve depth ls s).list ≡ whole.list
  pub state : (serve depth ls s).state ≡ whole.state

pub serving-start : (a : Agreed) (depth : ℕ) (s : State) (ls : List Cert) → ((c : Cert) → In c s.held → c.origin < length s.last)
    → Climb s.held (highest s.last) ls → ((c : Cert) → In c ls → leader a c.round s.held ≡ present c) → Serving a depth (serve depth ls s) s [] ls
serving-start a depth s ls mem r m = record { member = mem; rises = r; leads = m; list = refl; state = refl }

module _ (a : Agreed) (depth : ℕ) (whole : Served) (s : State) (out : List Cert) (l : Cert) (ls : List Cert) (S : Serving a depth whole s out (l ∷ ls)) where
  -- the leader whose turn it is
  pub serving-leader : leader a l.round s.held ≡ present l
  serving-leader = S.leads l (inl refl)

  pub serving-held : In l s.held
  serving-held = go S.rises
    where
      go : Climb s.held (highest s.last) (l ∷ ls) → In l s.held
      go (step-up _ h lt r) = h

  pub serving-up : highest s.last < l.round
  serving-up = go S.rises
    where
      go : Climb s.held (highest s.last) (l ∷ ls) → highest s.last < l.round
      go (step-up _ h lt r) = lt

  -- its turn
  pub serving-once : list_all depth (list_under depth l s) s
      ≡ record { last = raise_all (list_under depth l s) s.last; held = clear depth (raise_all (list_under depth l s) s.last) (highest (raise_all (list_under depth l s) s.last)) s.held }
  serving-once = let u = serving-up in turn-once depth l s serving-held (omega arith)

  pub serving-next : (s' : State) (out' : List Cert) → s' ≡ list_all depth (list_under depth l s) s → out' ≡ out ++ list_under depth l s → Serving a depth whole s' out' ls
  unfolding serve
  serving-next s' out' es eo = rw (es, eo) (go S.rises)
    where
      w : List Cert
      w = list_under depth l s

      t : State
      t = list_all depth w s

      go : Climb s.held (highest s.last) (l ∷ ls) → Serving a depth whole t (out ++ w) ls
      go (step-up _ hl up r) =
          record {
            member = turn-member depth s l S.member hl up;
            rises = climb-lower t.held l.round (highest t.last) ls (turn-high depth s l S.member hl up) (turn-climb depth s l S.member hl up l.round ls (omega arith) r);
            leads = λ c i. turn-leads depth s l S.member hl up a c (over ls l.round r c i) (S.leads c (inr i));
            list = append_assoc out w (serve depth ls t).list ∙ S.list;
            state = S.state;
          }
        where
          over : (cs : List Cert) (b : ℕ) → Climb s.held b cs → (c : Cert) → In c cs → b ≤ c.round
          over [] b level c i = absurd i
          over (x ∷ cs) b (step-up _ h lt q) c (inl z) = let e : c.round ≡ x.round = ap (λ (v : Cert). v.round) z in omega arith
          over (x ∷ cs) b (step-up _ h lt q) c (inr i) = let k = over cs x.round q c i in omega arith

  -- and there is room for it in what the whole list takes
  pub serving-room : length out + length (list_under depth l s) ≤ length whole.list
  unfolding serve
  serving-room =
      let w : List Cert = list_under depth l s in
      let rest : List Cert = (serve depth ls (list_all depth w s)).list in
      let x = length-append out (w ++ rest) in
      let y = length-append w rest in
      let z : length (out ++ (w ++ rest)) ≡ length whole.list = ap length S.list in
      omega arith

module _ (a : Agreed) (depth : ℕ) (whole : Served) (s : State) (out : List Cert) (S : Serving a depth whole s out []) where
  pub serving-list : out ≡ whole.list
  unfolding serve
  serving-list = sym (append-nil out) ∙ S.list

  pub serving-state : s ≡ whole.state
  unfolding serve
  serving-state = S.state
