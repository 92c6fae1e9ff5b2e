-- The invariant of a run, and the fresh start. Assumes nothing.
use mathlib.Core.List.{List, [], ◌∷◌, map}
use mathlib.Core.Logic.{◌⊎◌, inl, inr}
use mathlib.Core.Path.{◌∙◌, ◌≡◌, ap, refl}
use Prim.Native.Nat.{◌+◌, ◌<◌, suc, suc-le-suc, ℕ}
use native.Mathlib.Nat.{add-suc, add-zero, suc-add}
use native.Mathlib.Omega.{arith}
use lib.ListN.{get_or, length, length-replicate}
use Rattle.consensus.specs.Among.{In, Once}
use Rattle.consensus.specs.Leaders.{Agreed}
use Rattle.consensus.specs.Listing.{Step}
use Rattle.consensus.specs.Order.{History, start}
use Rattle.consensus.specs.Table.{Cert, fresh, genesis}
use Rattle.demands.specs.Demand.{Gone, Heights, Start}
use Rattle.consensus.proofs.Marks.{zeros}
use Rattle.consensus.proofs.Lists.{Distinct}
use Rattle.demands.proofs.Between.{Ok}

-- the invariant
pub record Hist (a : Agreed) (h : History) : Type 0 where
  pub ok : Ok h.state (λ d. In d h.listed)
  pub heights : Heights (λ d. In d h.listed) h.state.last
  pub once : Once h.listed
  pub known : (c : Cert) → In c h.state.held → In c h.accepted ⊎ (c.round ≡ 0)
  pub were : (c : Cert) → In c h.listed → In c h.accepted
  pub kept : (c : Cert) → In c h.accepted → In c h.listed ⊎ (In c h.state.held ⊎ Gone a.depth (λ d. In d h.listed) h.steps c)
  pub size : length h.state.last ≡ length a.stakes
  pub steps : map (λ (p : Step). p.one) h.steps ≡ h.listed

-- the fresh start

gen-in : (ds : List (List ℕ)) (o : ℕ) (c : Cert) → In c (genesis o ds)
    → (i : ℕ) × (i < length ds) × (c ≡ record { origin = o + i; round = 0; digest = get_or ds i []; parents = [] })
unfolding genesis
gen-in [] o c h = absurd h
gen-in (d ∷ ds) o c (inl e) = (0, omega arith, rw add-zero e)
gen-in (d ∷ ds) o c (inr h) = let y = gen-in ds (suc o) c h in (suc y.0, suc-le-suc y.1, y.2 ∙ rw (add-suc, suc-add))

gen-distinct : (ds : List (List ℕ)) (o : ℕ) → ((i j : ℕ) → i < length ds → j < length ds → get_or ds i [] ≡ get_or ds j [] → i ≡ j) → Distinct (genesis o ds)
unfolding genesis
gen-distinct [] o u = tt
gen-distinct (d ∷ ds) o u = (
  (λ c h e. let y = gen-in ds (suc o) c h in
      let z : ◌≡◌ {A = ℕ} 0 (suc y.0) = u 0 (suc y.0) (omega arith) (suc-le-suc y.1) (e ∙ ap (λ (v : Cert). v.digest) y.2) in
      omega arith),
  gen-distinct ds (suc o) (λ i j hi hj e. let z = u (suc i) (suc j) (suc-le-suc hi) (suc-le-suc hj) e in omega arith),
)

pub begin : (a : Agreed) (ds : List (List ℕ)) → Start a ds → Hist a (start ds)
unfolding start fresh
begin a ds st =
    record {
      ok = record {
        sane = record {
          distinct = gen-distinct ds 0 st.distinct;
          ground = λ c h e. ap (λ (v : Cert). v.parents) (gen-in ds 0 c h).2;
        };
        member = λ c h.
            let x = gen-in ds 0 c h in
            let e : c.origin ≡ 0 + x.0 = ap (λ (v : Cert). v.origin) x.2 in
            let l : x.0 < length ds = x.1 in
            rw (length-replicate {A = ℕ} (length ds) 0) (omega arith);
        low = λ c h. absurd h;
        rested = λ c h p. absurd p;
        base = λ c h z. zeros (length ds) c.origin;
      };
      heights = record { most = λ c h. absurd h; some = λ o. inl (zeros (length ds) o) };
      once = tt;
      known = λ c h. inr (ap (λ (v : Cert). v.round) (gen-in ds 0 c h).2);
      were = λ c h. absurd h;
      kept = λ c h. absurd h;
      size = length-replicate {A = ℕ} (length ds) 0 ∙ st.each;
      steps = refl;
    }
