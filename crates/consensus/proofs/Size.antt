-- The list of a commit is never longer than the table, whatever the table holds: a listed place is cleared or at rest afterwards,
-- and neither is walked to again. Assumes nothing.
use mathlib.Core.Bool.{Bool, false, true}
use mathlib.Core.List.{List, [], ◌∷◌, map}
use mathlib.Core.Logic.{inl, inr}
use mathlib.Core.Path.{◌∙◌, ◌≡◌, ap, refl, subst, sym}
use Prim.Native.Nat.{◌+◌, ◌-◌, ◌<◌, ◌≤◌, suc, suc-le-suc, ℕ}
use native.Mathlib.Omega.{arith}
use borrow.Author.Tests.{eq-eqb, ne_eqb}
use lib.Dec.{eqb, leb, ltb}
use lib.ListN.{get_or, length, length-append, length-map}
use Rattle.consensus.specs.Among.{In}
use Rattle.consensus.specs.Listing.{Cause, Fate, clear, fate, goes, list_all, raise, serve, stays}
use Rattle.consensus.specs.Table.{Cert, State, cert_at, find, highest}
use Rattle.consensus.specs.Walk.{by_round, drop_deep, list_under, parents_at, place, walk_from}
use Rattle.consensus.proofs.ClearOnce.{highest-mono, raise-all-le, raise_all, turn-once}
use Rattle.consensus.proofs.Dfs.{Reach, here, onward}
use Rattle.consensus.proofs.Marks.{Up, drop-count, drop_keeps, drop-size, drop_all, get-map, map-up, ones, ones-le, ones-mono}
use Rattle.consensus.proofs.Find.{find-is, find-some, parents-are, parents-low}
use Rattle.consensus.proofs.Listing.{Within, all-size, highest-ge, list_back, raise-at, raise-size, stays-means, within}
use Rattle.consensus.proofs.Lists.{at_in}
use Rattle.consensus.proofs.Climb.{Climb, step-up, climb-stays}
use Rattle.consensus.proofs.Sort.{deep_in, in-deep, in_map, in-sort, map-in, sort-in}
use Rattle.consensus.proofs.Dfs as dfs

-- not at rest: not at its origin's last committed round
unfoldable pub open_at : List ℕ → Cert → ℕ
open_at lasts c = elim (eqb c.round (get_or lasts c.origin 0)) [ true ↦ 0 | false ↦ 1 ]

open-one : (lasts : List ℕ) (c : Cert) → (c.round ≡ get_or lasts c.origin 0 → ⊥) → open_at lasts c ≡ 0 → ⊥
unfolding open_at
open-one lasts c n e = let z : ◌≡◌ {A = ℕ} 1 0 = rw (ne_eqb c.round (get_or lasts c.origin 0) n, open_at) at e in omega arith

open-zero : (lasts : List ℕ) (c : Cert) → c.round ≡ get_or lasts c.origin 0 → open_at lasts c ≡ 0
unfolding open_at
open-zero lasts c e = rw (eq-eqb c.round (get_or lasts c.origin 0) e, open_at)

open-only : (lasts : List ℕ) (c : Cert) → (open_at lasts c ≡ 0 → ⊥) → c.round ≡ get_or lasts c.origin 0 → ⊥
open-only lasts c n e = n (open-zero lasts c e)

-- open and kept after the clearing
unfoldable pub after_at : ℕ → List ℕ → Cert → ℕ
unfolding fate open_at
after_at depth lasts c = elim (fate depth lasts (highest lasts) c) [ stays ↦ open_at lasts c | goes w ↦ 0 ]

after-only : (depth : ℕ) (lasts : List ℕ) (c : Cert) → (after_at depth lasts c ≡ 0 → ⊥) → (fate depth lasts (highest lasts) c ≡ stays) × (open_at lasts c ≡ 0 → ⊥)
unfolding after_at
after-only depth lasts c n = go (fate depth lasts (highest lasts) c) refl
  where
    go : (f : Fate) → fate depth lasts (highest lasts) c ≡ f → (fate depth lasts (highest lasts) c ≡ stays) × (open_at lasts c ≡ 0 → ⊥)
    go stays e = (e, λ z. n (rw (e, after_at) z))
    go (goes w) e = absurd (n (rw (e, after_at)))

after-stays' : (depth : ℕ) (lasts : List ℕ) (c : Cert) → fate depth lasts (highest lasts) c ≡ stays → after_at depth lasts c ≡ open_at lasts c
unfolding after_at
after-stays' depth lasts c e = rw (e, after_at)

after-goes' : (depth : ℕ) (lasts : List ℕ) (c : Cert) (w : Cause) → fate depth lasts (highest lasts) c ≡ goes w → after_at depth lasts c ≡ 0
unfolding after_at
after-goes' depth lasts c w e = rw (e, after_at)

clear-ones : (depth : ℕ) (lasts : List ℕ) (cs : List Cert)
    → ones (map (open_at lasts) (clear depth lasts (highest lasts) cs)) ≡ ones (map (after_at depth lasts) cs)
unfolding clear ones
clear-ones depth lasts [] = refl
clear-ones depth lasts (c ∷ cs) = go (clear-ones depth lasts cs) (fate depth lasts (highest lasts) c) refl
  where
    R : List Cert
    R = clear depth lasts (highest lasts) cs

    go : ones (map (open_at lasts) R) ≡ ones (map (after_at depth lasts) cs) → (f : Fate) → fate depth lasts (highest lasts) c ≡ f
        → ones (map (open_at lasts) (clear depth lasts (highest lasts) (c ∷ cs))) ≡ ones (map (after_at depth lasts) (c ∷ cs))
    go ih stays e =
        let p : clear depth lasts (highest lasts) (c ∷ cs) ≡ c ∷ R = rw (e, clear) in
        let q : after_at depth lasts c ≡ open_at lasts c = after-stays' depth lasts c e in
        ap (λ (v : List Cert). ones (map (open_at lasts) v)) p ∙ head (open_at lasts c) (map (open_at lasts) R) (map (after_at depth lasts) cs) ih
        ∙ ap (λ (v : ℕ). ones (v ∷ map (after_at depth lasts) cs)) (sym q)
      where
        head : (x : ℕ) (xs ys : List ℕ) → ones xs ≡ ones ys → ones (x ∷ xs) ≡ ones (x ∷ ys)
        head x xs ys z = go₂ (eqb x 0) refl
          where
            go₂ : (b : Bool) → eqb x 0 ≡ b → ones (x ∷ xs) ≡ ones (x ∷ ys)
            go₂ true t = rw (t, ones) z
            go₂ false t = rw (t, ones) (ap suc z)
    go ih (goes w) e =
        let p : clear depth lasts (highest lasts) (c ∷ cs) ≡ R = rw (e, clear) in
        let q : after_at depth lasts c ≡ 0 = after-goes' depth lasts c w e in
        ap (λ (v : List Cert). ones (map (open_at lasts) v)) p ∙ ih ∙ sym (ap (λ (v : ℕ). ones (v ∷ map (after_at depth lasts) cs)) q)

-- one leader's list

length-place : (x : Cert) (cs : List Cert) → length (place x cs) ≡ suc (length cs)
unfolding place
length-place x [] = refl
length-place x (c ∷ cs) = go (length-place x cs) (leb x.round c.round) refl
  where
    go : length (place x cs) ≡ suc (length cs) → (b : Bool) → leb x.round c.round ≡ b → length (place x (c ∷ cs)) ≡ suc (length (c ∷ cs))
    go ih true t = rw (t, place)
    go ih false t = rw (t, place) (ap suc ih)

length-sort : (cs : List Cert) → length (by_round cs) ≡ length cs
unfolding by_round
length-sort [] = refl
length-sort (c ∷ cs) = length-place c (by_round cs) ∙ ap suc (length-sort cs)

length-deep : (depth top : ℕ) (cs : List Cert) → length (drop_deep depth top cs) ≤ length cs
unfolding drop_deep
length-deep depth top [] = omega arith
length-deep depth top (c ∷ cs) = go (length-deep depth top cs) (ltb (c.round + depth) top) refl
  where
    go : length (drop_deep depth top cs) ≤ length cs → (b : Bool) → ltb (c.round + depth) top ≡ b → length (drop_deep depth top (c ∷ cs)) ≤ length (c ∷ cs)
    go ih true t = rw (t, drop_deep) (omega arith)
    go ih false t = rw (t, drop_deep) (suc-le-suc ih)

-- what the walk reaches is in the table, open, and no higher than the root
pub record Reached (s : State) (i j : ℕ) : Type 0 where
  pub low : j < length s.held
  pub unlisted : (cert_at s.held j).round ≡ get_or s.last (cert_at s.held j).origin 0 → ⊥
  pub under : (cert_at s.held j).round ≤ (cert_at s.held i).round

reached : (s : State) (i : ℕ) → i < length s.held → ((cert_at s.held i).round ≡ get_or s.last (cert_at s.held i).origin 0 → ⊥)
    → (j : ℕ) → Reach (parents_at s) i j → Reached s i j
unfolding parents_at
reached s i lt n j here = record { low = lt; unlisted = n; under = omega arith }
reached s i lt n j (onward {x} c m) =
    let a = (reached s i lt n x c).under in
    let k = parents-are s.last s.held ((cert_at s.held x).round - 1) (cert_at s.held x).parents j m in
    let b = k.below in
    record { low = k.low; unlisted = λ e. k.open' (sym e); under = omega arith }

raise-all-size : (w : List Cert) (l : List ℕ) → length (raise_all w l) ≡ length l
unfolding raise_all
raise-all-size [] l = refl
raise-all-size (c ∷ w) l = raise-all-size w (raise c l) ∙ raise-size c l

-- the listed are at most at their origin's last committed round
raise-all-ge : (w : List Cert) (l : List ℕ) (c : Cert) → In c w → c.origin < length l → c.round ≤ get_or (raise_all w l) c.origin 0
unfolding raise_all
raise-all-ge [] l c h lt = absurd h
raise-all-ge (x ∷ w) l c (inl e) lt =
    let lx : x.origin < length l = subst (λ (v : Cert). v.origin < length l) e lt in
    let a = raise-at x l lx in
    let b = raise-all-le w (raise x l) x.origin in
    let g : x.round ≤ get_or (raise_all w (raise x l)) x.origin 0 = omega arith in
    subst (λ (v : Cert). v.round ≤ get_or (raise_all w (raise x l)) v.origin 0) (sym e) g
raise-all-ge (x ∷ w) l c (inr i) lt = raise-all-ge w (raise x l) c i (rw (raise-size x l) lt)

pub record Turn (depth : ℕ) (s : State) (l : Cert) : Type 0 where
  pub within : Within depth (list_under depth l s) s l.round
  pub fewer : length (list_under depth l s) + ones (map (open_at (list_all depth (list_under depth l s) s).last) (list_all depth (list_under depth l s) s).held)
      ≤ ones (map (open_at s.last) s.held)

pub turn-size : (depth : ℕ) (s : State) (l : Cert) → ((c : Cert) → In c s.held → c.origin < length s.last) → In l s.held → highest s.last < l.round → Turn depth s l
unfolding list_under walk_from
turn-size depth s l mem hl above =
    let held = s.held in
    let i = find l.round l.digest held in
    let li : i < length held = find-some l.round l.digest held l hl refl refl in
    let ri : (cert_at held i).round ≡ l.round = (find-is l.round l.digest held li).0 in
    let hi = highest-ge s.last (cert_at held i).origin in
    let D = dfs.dfs (parents_at s) (length held) i (parents-low s) li in
    let js = walk_from s i in
    let at : (j : ℕ) → In j js → Reached s i j = λ j h. reached s i li (λ e. omega arith) j (D.only j h) in
    let top = highest s.last in
    let cs : List Cert = map (cert_at held) js in
    let w : List Cert = list_under depth l s in
    let l' : List ℕ = raise_all w s.last in
    let known : (c : Cert) → In c w → (c.origin < length s.last) × (c.round ≤ l.round) =
    λ c h.
    let y = map-in (cert_at held) js c (deep_in depth top cs c (sort-in (drop_deep depth top cs) c h)).0 in
    let r = at y.0 y.1 in
    let u = r.under in
    let e = ap (λ (v : Cert). v.round) y.2 in
    (subst (λ (v : Cert). v.origin < length s.last) (sym y.2) (mem (cert_at held y.0) (at_in held y.0 r.low)), omega arith) in
    let F : List ℕ = map (open_at s.last) held in
    let G : List ℕ = map (after_at depth l') held in
    let up : (j : ℕ) → In j js → Up F j =
    λ j h z. open-one s.last (cert_at held j) (at j h).unlisted (sym (get-map (open_at s.last) held j (at j h).low) ∙ z) in
    let rise = raise-all-le w s.last in
    let rest : (j : ℕ) → In j js → Up G j → ⊥ =
    λ j h u.
    let c = cert_at held j in
    let q = after-only depth l' c (λ z. u (get-map (after_at depth l') held j (at j h).low ∙ z)) in
    let m = stays-means depth l' (highest l') c q.0 in
    let m₀ = m.0 in
    let m₁ = m.1 in
    let hm = highest-mono s.last l' rise in
    let near : top ≤ c.round + depth = omega arith in
    let inw : In c w = in-sort (drop_deep depth top cs) c (in-deep depth top cs c (in_map (cert_at held) js j h) near) in
    let g = raise-all-ge w s.last c inw (known c inw).0 in
    q.1 (open-zero l' c (omega arith)) in
    let sub : (k : ℕ) → Up G k → Up F k =
    λ k u z.
    let lk : k < length held = map-up (after_at depth l') held k u in
    let c = cert_at held k in
    let q = after-only depth l' c (λ y. u (get-map (after_at depth l') held k lk ∙ y)) in
    let m₀ = (stays-means depth l' (highest l') c q.0).0 in
    let o = open-only l' c q.1 in
    let r = rise c.origin in
    open-one s.last c (λ e. o (omega arith)) (sym (get-map (open_at s.last) held k lk) ∙ z) in
    let d = drop-count js F D.each up in
    let mono : ones G ≤ ones (drop_all js F) =
    ones-mono G (drop_all js F) (length-map held (after_at depth l') ∙ sym (length-map held (open_at s.last)) ∙ sym (drop-size js F))
    (λ k u z. sub k u (sym (drop_keeps js F k (λ h. rest k h u)) ∙ z)) in
    let once = turn-once depth l s hl (omega arith) in
    let after : ones (map (open_at (list_all depth w s).last) (list_all depth w s).held) ≡ ones G =
    ap (λ (v : State). ones (map (open_at v.last) v.held)) once ∙ clear-ones depth l' held in
    let n₁ = length-sort (drop_deep depth top cs) in
    let n₂ = length-deep depth top cs in
    let n₃ = length-map js (cert_at held) in
    let n₄ : length w ≤ length js = omega arith in
    record { within = within depth w s l.round known (omega arith); fewer = omega arith }

-- a commit's list
pub serve-size : (depth : ℕ) (ls : List Cert) (s : State) (b : ℕ) → ((c : Cert) → In c s.held → c.origin < length s.last) → highest s.last ≤ b → Climb s.held b ls
    → length (serve depth ls s).list ≤ ones (map (open_at s.last) s.held)
unfolding serve
serve-size depth [] s b mem h r = omega arith
serve-size depth (l ∷ ls) s b mem h (step-up _ hl lt r) =
    let w : List Cert = list_under depth l s in
    let s' : State = list_all depth w s in
    let T = turn-size depth s l mem hl (omega arith) in
    let e : length s'.last ≡ length s.last = all-size depth w s in
    let mem' : (c : Cert) → In c s'.held → c.origin < length s'.last = λ c q. rw e (mem c (list_back depth w s c q)) in
    let C = serve-size depth ls s' l.round mem' T.within.high (climb-stays depth w s l.round ls T.within l.round (omega arith) r) in
    let F = T.fewer in
    let a = length-append w (serve depth ls s').list in
    omega arith

pub serve-fits : (depth : ℕ) (ls : List Cert) (s : State) (b : ℕ) → ((c : Cert) → In c s.held → c.origin < length s.last) → highest s.last ≤ b → Climb s.held b ls
    → length (serve depth ls s).list ≤ length s.held
serve-fits depth ls s b mem h r =
    let a = serve-size depth ls s b mem h r in
    let c = ones-le (map (open_at s.last) s.held) in
    let d = length-map s.held (open_at s.last) in
    omega arith
