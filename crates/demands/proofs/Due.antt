-- What is listed under one leader: exactly what is due, each once, lower rounds first. Assumes nothing.
use mathlib.Core.Bool.{Bool, false, true}
use mathlib.Core.List.{List, [], ◌∷◌, map}
use mathlib.Core.Logic.{⊎_elim}
use mathlib.Core.Path.{◌∙◌, ◌≡◌, ap, refl, subst, sym}
use Prim.Native.Nat.{◌-◌, ◌<◌, ◌≤◌, suc, zero, ℕ}
use native.Mathlib.Omega.{arith}
use borrow.Author.Tests.{leb-false, leb-true}
use lib.Dec.{leb}
use lib.ListN.{length}
use Rattle.consensus.specs.Among.{In}
use Rattle.consensus.specs.Table.{Cert, State, cert_at, find, highest}
use Rattle.consensus.specs.Walk.{by_round, drop_deep, list_under, open_parents, parents_at, place, walk_from}
use Rattle.demands.specs.Demand.{Chain, Lists, LowerFirst, down, self}
use Rattle.consensus.proofs.Dfs.{Reach, here, onward}
use Rattle.consensus.proofs.Find.{are-parents, parents-are, parents-low, place_of}
use Rattle.consensus.proofs.Lists.{Distinct, at_in, at-inj, in-at}
use Rattle.consensus.proofs.Sort.{deep_in, in-deep, in_map, in-sort, map-in, once-deep, once-map, once-sort, place_in, sort-in}
use Rattle.consensus.proofs.Dfs as dfs

-- no two hold one digest; round 0 names no parents
pub record Sane (held : List Cert) : Type 0 where
  pub distinct : Distinct held
  pub ground : (c : Cert) → In c held → c.round ≡ 0 → c.parents ≡ []

-- the walk from a held leader goes by chains

module _ (s : State) (sane : Sane s.held) (i : ℕ) (li : i < length s.held) where
  -- a round above 0, where there are parents
  above : (x : Cert) → In x s.held → (d : List ℕ) → In d x.parents → suc (x.round - 1) ≡ x.round
  above x h d m = go x.round refl
    where
      go : (n : ℕ) → x.round ≡ n → suc (x.round - 1) ≡ x.round
      go zero e = absurd (subst (λ (ps : List (List ℕ)). In d ps) (sane.ground x h e) m)
      go (suc n) e = omega arith

  pub reach-seen : (j : ℕ) → Reach (parents_at s) i j → (j < length s.held) × Chain s (cert_at s.held i) (cert_at s.held j)
  unfolding parents_at
  reach-seen j here = (li, self)
  reach-seen j (onward {x} c m) =
      let a = reach-seen x c in
      let k = parents-are s.last s.held ((cert_at s.held x).round - 1) (cert_at s.held x).parents j m in (
        k.low,
        down a.1 (at_in s.held j k.low) k.named
            (ap suc k.below ∙ above (cert_at s.held x) (at_in s.held x a.0) (cert_at s.held j).digest k.named) (λ e. k.open' (omega arith)),
      )

  pub chain-found : (c : Cert) → Chain s (cert_at s.held i) c → (j : ℕ) × (j < length s.held) × (cert_at s.held j ≡ c) × Reach (parents_at s) i j
  unfolding parents_at
  chain-found c self = (i, li, refl, here)
  chain-found c (down {x} ch h m e o) =
      let a = chain-found x ch in
      let y = in-at s.held c h in
      let j = y.0 in
      let b : c.round ≡ x.round - 1 = omega arith in
      let k : In j (open_parents s.last s.held (x.round - 1) x.parents) =
      are-parents s.last s.held (x.round - 1) sane.distinct x.parents j
      (record { low = y.1; named = rw y.2 m; below = rw y.2 b; open' = rw y.2 o }) in
      (j, y.1, y.2, onward {x = a.0} {j = j} a.3 (rw a.2 k))

asc-place : (x : Cert) (cs : List Cert) → LowerFirst cs → LowerFirst (place x cs)
unfolding place
asc-place x [] a = ((λ c h. absurd h), tt)
asc-place x (y ∷ cs) a = go (asc-place x cs a.1) (leb x.round y.round) refl
  where
    go : LowerFirst (place x cs) → (b : Bool) → leb x.round y.round ≡ b → LowerFirst (place x (y ∷ cs))
    go ih true e =
        let l : x.round ≤ y.round = leb-true x.round y.round e in
        rw (e, place) ((λ c h. ⊎_elim (λ z. rw z l) (λ i. let m = a.0 c i in omega arith) h), a)
    go ih false e =
        let l : y.round < x.round = leb-false x.round y.round e in
        rw (e, place) ((λ c h. ⊎_elim (λ z. rw z (omega arith)) (λ i. a.0 c i) (place_in x cs c h)), ih)

asc-sort : (cs : List Cert) → LowerFirst (by_round cs)
unfolding by_round
asc-sort [] = tt
asc-sort (x ∷ cs) = asc-place x (by_round cs) (asc-sort cs)

-- what is listed under a held leader: exactly what is due
pub due : (depth : ℕ) (s : State) (l : Cert) → Sane s.held → In l s.held → Lists depth s l (list_under depth l s)
unfolding list_under walk_from
due depth s l sane hl =
    let ps = s.held in
    let at = place_of s l sane.distinct hl in
    let i = find l.round l.digest ps in
    let low : (x j : ℕ) → In j (parents_at s x) → j < length ps = parents-low s in
    let w = dfs.dfs (parents_at s) (length ps) i low at.0 in
    let js = walk_from s i in
    let cs : List Cert = map (cert_at ps) js in
    let inj : (a b : ℕ) → In a js → In b js → cert_at ps a ≡ cert_at ps b → a ≡ b =
    λ a b ha hb e.
    let x = reach-seen s sane i at.0 a (w.only a ha) in
    let y = reach-seen s sane i at.0 b (w.only b hb) in
    at-inj ps sane.distinct a b x.0 y.0 (ap (λ (v : Cert). v.digest) e) in
    record {
      only = λ c h.
          let d = deep_in depth (highest s.last) cs c (sort-in (drop_deep depth (highest s.last) cs) c h) in
          let y = map-in (cert_at ps) js c d.0 in
          let x = reach-seen s sane i at.0 y.0 (w.only y.0 y.1) in
          let ch : Chain s (cert_at ps i) c = subst (Chain s (cert_at ps i)) (sym y.2) x.1 in
          let near = d.1 in
          record { chain = subst (λ (v : Cert). Chain s v c) at.1 ch; near = omega arith };
      all = λ c d.
          let near = d.near in
          let ch : Chain s (cert_at ps i) c = subst (λ (v : Cert). Chain s v c) (sym at.1) d.chain in
          let f = chain-found s sane i at.0 c ch in
          let m : In c cs = subst (λ (v : Cert). In v cs) f.2 (in_map (cert_at ps) js f.0 (w.all f.0 f.3)) in
          in-sort (drop_deep depth (highest s.last) cs) c (in-deep depth (highest s.last) cs c m (omega arith));
      once = once-sort (drop_deep depth (highest s.last) cs) (once-deep depth (highest s.last) cs (once-map (cert_at ps) js inj w.each));
      lower = asc-sort (drop_deep depth (highest s.last) cs);
    }
