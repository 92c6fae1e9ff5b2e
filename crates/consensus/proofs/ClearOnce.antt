-- Clearing once after a leader's whole list gives the same table as clearing after each listed one. Assumes nothing.
use mathlib.Core.Bool.{Bool, false, true}
use mathlib.Core.List.{List, [], ◌∷◌, map}
use mathlib.Core.Logic.{⊎_elim}
use mathlib.Core.Path.{◌∙◌, ◌≡◌, ap, refl, subst, sym}
use Prim.Native.Nat.{◌+◌, ◌<◌, ◌≤◌, max, suc, zero, ℕ}
use native.Mathlib.Nat.{not-suc-le-zero}
use native.Mathlib.Omega.{arith}
use borrow.Author.Tests.{le-ltb, ltb-false, ltb-true}
use lib.Dec.{leb, ltb}
use lib.ListN.{get_or, length, replicate, set}
use lib.Seq.{set_out}
use Rattle.consensus.specs.Among.{In}
use Rattle.consensus.specs.Listing.{Fate, clear, fate, goes, list_all, list_one, raise, stays}
use Rattle.consensus.specs.Table.{Cert, State, cert_at, find, highest}
use Rattle.consensus.specs.Walk.{by_round, drop_deep, list_under, parents_at, place, put_all, walk, walk_from}
use Rattle.consensus.proofs.Find.{find-is, find-some}
use Rattle.consensus.proofs.Listing.{highest-at, highest-ge, raise-is, stays-means, stays-when, stays≢goes}

-- the last committed rounds only rise

pub raise-le : (c : Cert) (lasts : List ℕ) (o : ℕ) → get_or lasts o 0 ≤ get_or (raise c lasts) o 0
unfolding raise
raise-le c lasts o = go (ltb c.origin (length lasts)) refl
  where
    go : (b : Bool) → ltb c.origin (length lasts) ≡ b → get_or lasts o 0 ≤ get_or (raise c lasts) o 0
    go true t = (raise-is c lasts o (ltb-true c.origin (length lasts) t)).0
    go false t =
        let e : raise c lasts ≡ lasts = set_out lasts c.origin (max (get_or lasts c.origin 0) c.round) (ltb-false c.origin (length lasts) t) in
        subst (λ (l : List ℕ). get_or lasts o 0 ≤ get_or l o 0) (sym e) (omega arith)

pub highest-mono : (l l' : List ℕ) → ((o : ℕ) → get_or l o 0 ≤ get_or l' o 0) → highest l ≤ highest l'
highest-mono l l' m =
    ⊎_elim (λ z. omega arith) (λ q. let a = q.1 in let b = m q.0 in let c = highest-ge l' q.0 in omega arith) (highest-at l)

-- the last committed rounds after a whole list
unfoldable pub raise_all : List Cert → List ℕ → List ℕ
unfolding raise
raise_all [] last = last
raise_all (c ∷ cs) last = raise_all cs (raise c last)

pub raise-all-le : (cs : List Cert) (last : List ℕ) (o : ℕ) → get_or last o 0 ≤ get_or (raise_all cs last) o 0
unfolding raise_all
raise-all-le [] last o = omega arith
raise-all-le (c ∷ cs) last o = let a = raise-le c last o in let b = raise-all-le cs (raise c last) o in omega arith

pub clear-clear : (depth : ℕ) (l l' : List ℕ) → ((o : ℕ) → get_or l o 0 ≤ get_or l' o 0) → (cs : List Cert)
    → clear depth l' (highest l') (clear depth l (highest l) cs) ≡ clear depth l' (highest l') cs
unfolding clear
clear-clear depth l l' m [] = refl
clear-clear depth l l' m (x ∷ cs) = go (clear-clear depth l l' m cs) (fate depth l (highest l) x) refl (fate depth l' (highest l') x) refl
  where
    still : fate depth l' (highest l') x ≡ stays → fate depth l (highest l) x ≡ stays
    still e =
        let y = stays-means depth l' (highest l') x e in
        let a = m x.origin in
        let b = highest-mono l l' m in
        let y₀ = y.0 in
        let y₁ = y.1 in
        stays-when depth l (highest l) x (omega arith) (omega arith)

    go : clear depth l' (highest l') (clear depth l (highest l) cs) ≡ clear depth l' (highest l') cs
        → (f : Fate) → fate depth l (highest l) x ≡ f → (g : Fate) → fate depth l' (highest l') x ≡ g
        → clear depth l' (highest l') (clear depth l (highest l) (x ∷ cs)) ≡ clear depth l' (highest l') (x ∷ cs)
    go ih stays e stays e' = rw (e, e', clear) (ap (λ (v : List Cert). x ∷ v) ih)
    go ih stays e (goes w) e' = rw (e, e', clear) ih
    go ih (goes v) e stays e' = absurd (stays≢goes (sym (still e') ∙ e))
    go ih (goes v) e (goes w) e' = rw (e, e', clear) ih

pub clear-once : (depth : ℕ) (c : Cert) (cs : List Cert) (s : State)
    → list_all depth (c ∷ cs) s
    ≡ record { last = raise_all (c ∷ cs) s.last; held = clear depth (raise_all (c ∷ cs) s.last) (highest (raise_all (c ∷ cs) s.last)) s.held }
unfolding list_all list_one raise_all
clear-once depth c [] s = refl
clear-once depth c (d ∷ cs) s =
    let l : List ℕ = raise c s.last in
    let l' : List ℕ = raise_all (d ∷ cs) l in
    let q = clear-clear depth l l' (raise-all-le (d ∷ cs) l) s.held in
    clear-once depth d cs (list_one depth c s) ∙ ap (λ (v : List Cert). record { last = l'; held = v }) q

-- and a leader's list is never empty: the leader is on it

pub by_round-some : (c : Cert) (cs : List Cert) → by_round (c ∷ cs) ≡ [] → ⊥
unfolding by_round
by_round-some c cs e = go (by_round cs) e
  where
    no : (x : Cert) (xs : List Cert) → x ∷ xs ≡ [] → ⊥
    no x xs q = let z : ◌≡◌ {A = ℕ} (suc (length xs)) 0 = ap length q in omega arith

    go : (ds : List Cert) → place c ds ≡ [] → ⊥
    go [] q = no c [] q
    go (d ∷ ds) q = go₂ (leb c.round d.round) refl
      where
        go₂ : (b : Bool) → leb c.round d.round ≡ b → ⊥
        go₂ true t = no c (d ∷ ds) (rw (t, place) at q)
        go₂ false t = no d (place c ds) (rw (t, place) at q)

walk-some : (parents : ℕ → List ℕ) (n i : ℕ) (fs : List ℕ) → 0 < n → (t : List ℕ) × (walk parents n (record { pile = i ∷ []; flags = fs }) ≡ i ∷ t)
unfolding walk
walk-some parents zero i fs h = absurd (not-suc-le-zero h)
walk-some parents (suc n) i fs h = (walk parents n (put_all (parents i) (record { pile = []; flags = fs })), refl)

pub under_some : (depth : ℕ) (l : Cert) (s : State) → find l.round l.digest s.held < length s.held → highest s.last ≤ l.round → list_under depth l s ≡ [] → ⊥
unfolding list_under walk_from
under_some depth l s lt near e =
    let held = s.held in
    let i = find l.round l.digest held in
    let w = walk-some (parents_at s) (length held) i (set (replicate (length held) 0) i 1) (omega arith) in
    let r : (cert_at held i).round ≡ l.round = (find-is l.round l.digest held lt).0 in
    let n : highest s.last ≤ (cert_at held i).round + depth = omega arith in
    by_round-some (cert_at held i) (drop_deep depth (highest s.last) (map (cert_at held) w.0))
    (sym (ap by_round (keep (cert_at held i) (map (cert_at held) w.0) n)) ∙ sym (ap (λ (v : List ℕ). by_round (drop_deep depth (highest s.last) (map (cert_at held) v))) w.1) ∙ e)
  where
    keep : (c : Cert) (cs : List Cert) → highest s.last ≤ c.round + depth → drop_deep depth (highest s.last) (c ∷ cs) ≡ c ∷ drop_deep depth (highest s.last) cs
    keep c cs h = rw (le-ltb (c.round + depth) (highest s.last) h, drop_deep)

-- so a turn may clear once
pub turn-once : (depth : ℕ) (l : Cert) (s : State) → In l s.held → highest s.last ≤ l.round
    → list_all depth (list_under depth l s) s
    ≡ record { last = raise_all (list_under depth l s) s.last; held = clear depth (raise_all (list_under depth l s) s.last) (highest (raise_all (list_under depth l s) s.last)) s.held }
turn-once depth l s h near = go (list_under depth l s) (under_some depth l s (find-some l.round l.digest s.held l h refl refl) near)
  where
    go : (w : List Cert) → (w ≡ [] → ⊥) → list_all depth w s ≡ record { last = raise_all w s.last; held = clear depth (raise_all w s.last) (highest (raise_all w s.last)) s.held }
    go [] n = absurd (n refl)
    go (c ∷ cs) n = clear-once depth c cs s
