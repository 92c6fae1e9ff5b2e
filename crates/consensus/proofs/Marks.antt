-- Lists of marks: which places are marked, how many, a mark more, marks less. Assumes nothing.
use mathlib.Core.Bool.{Bool, true, false}
use mathlib.Core.List.{List, [], ◌∷◌, map}
use mathlib.Core.Logic.{◌⊎◌, inl, inr}
use mathlib.Core.Path.{◌≡◌, refl, sym, ap, ◌∙◌, subst}
use Prim.Native.Nat.{ℕ, zero, suc, ◌+◌, ◌≤◌, ◌<◌, suc-le-suc}
use native.Mathlib.Nat.{le_of_suc-le-suc, not-suc-le-zero}
use native.Mathlib.Omega.{arith}
use borrow.Author.Tests.{eq-eqb, ne_eqb, eqb-true, eqb-false}
use lib.Dec.{eqb}
use lib.ListN.{length, get_or, set, replicate, length-set}
use lib.Seq.{get_or-set_same, get_or-set_other}
use Rattle.consensus.specs.Among.{In, Once}
use Rattle.consensus.specs.Table.{Cert, cert_at}

-- place j is marked
abbrev pub Up : List ℕ → ℕ → Type 0
Up fs j = get_or fs j 0 ≡ 0 → ⊥

-- how many are
unfoldable pub ones : List ℕ → ℕ
ones [] = 0
ones (f ∷ fs) = elim (eqb f 0) [ true ↦ ones fs | false ↦ suc (ones fs) ]

pub ones-le : (fs : List ℕ) → ones fs ≤ length fs
unfolding ones
ones-le [] = omega arith
ones-le (f ∷ fs) = go (ones-le fs) (eqb f 0) refl
  where
    go : ones fs ≤ length fs → (b : Bool) → eqb f 0 ≡ b → ones (f ∷ fs) ≤ length (f ∷ fs)
    go i true e = rw (e, ones) (omega arith)
    go i false e = rw (e, ones) (omega arith)

pub ones-set : (fs : List ℕ) (j : ℕ) → j < length fs → get_or fs j 0 ≡ 0 → ones (set fs j 1) ≡ suc (ones fs)
unfolding ones
ones-set [] j h e = absurd (not-suc-le-zero h)
ones-set (f ∷ fs) zero h e = rw (eq-eqb f 0 e, ones)
ones-set (f ∷ fs) (suc j) h e = go (ones-set fs j (le_of_suc-le-suc h) e) (eqb f 0) refl
  where
    go : ones (set fs j 1) ≡ suc (ones fs) → (b : Bool) → eqb f 0 ≡ b → ones (f ∷ set fs j 1) ≡ suc (ones (f ∷ fs))
    go i true q = rw (q, ones) i
    go i false q = rw (q, ones) (ap suc i)

pub ones_none : (n : ℕ) → ones (replicate n 0) ≡ 0
unfolding ones
ones_none zero = refl
ones_none (suc n) = ones_none n

-- a mark more: up there, and elsewhere as before
pub up-set : (fs : List ℕ) (j : ℕ) → j < length fs → Up (set fs j 1) j
up-set fs j h e = let z : ◌≡◌ {A = ℕ} 1 0 = sym (get_or-set_same fs j 1 0 h) ∙ e in omega arith

pub up_more : (fs : List ℕ) (j i : ℕ) → j < length fs → Up fs i → Up (set fs j 1) i
up_more fs j i h u = go (eqb i j) refl
  where
    go : (b : Bool) → eqb i j ≡ b → Up (set fs j 1) i
    go true q = subst (λ (k : ℕ). Up (set fs j 1) k) (sym (eqb-true i j q)) (up-set fs j h)
    go false q = λ e. u (sym (get_or-set_other fs j i 1 0 (eqb-false i j q)) ∙ e)

pub up-back : (fs : List ℕ) (j i : ℕ) → Up (set fs j 1) i → (i ≡ j) ⊎ Up fs i
up-back fs j i u = go (eqb i j) refl
  where
    go : (b : Bool) → eqb i j ≡ b → (i ≡ j) ⊎ Up fs i
    go true q = inl (eqb-true i j q)
    go false q = inr (λ e. u (get_or-set_other fs j i 1 0 (eqb-false i j q) ∙ e))

pub zeros : (n i : ℕ) → get_or {A = ℕ} (replicate n 0) i 0 ≡ 0
zeros zero i = refl
zeros (suc n) zero = refl
zeros (suc n) (suc i) = zeros n i

-- marks less

pub ones-drop : (fs : List ℕ) (j : ℕ) → Up fs j → suc (ones (set fs j 0)) ≡ ones fs
unfolding ones
ones-drop [] j u = absurd (u refl)
ones-drop (f ∷ fs) zero u = rw (ne_eqb f 0 u, ones)
ones-drop (f ∷ fs) (suc j) u = go (ones-drop fs j u) (eqb f 0) refl
  where
    go : suc (ones (set fs j 0)) ≡ ones fs → (b : Bool) → eqb f 0 ≡ b → suc (ones (f ∷ set fs j 0)) ≡ ones (f ∷ fs)
    go i true q = rw (q, ones) i
    go i false q = rw (q, ones) (ap suc i)

unfoldable pub drop_all : List ℕ → List ℕ → List ℕ
drop_all [] fs = fs
drop_all (j ∷ js) fs = drop_all js (set fs j 0)

pub drop-size : (js fs : List ℕ) → length (drop_all js fs) ≡ length fs
unfolding drop_all
drop-size [] fs = refl
drop-size (j ∷ js) fs = drop-size js (set fs j 0) ∙ length-set fs j 0

pub drop-count : (js fs : List ℕ) → Once js → ((j : ℕ) → In j js → Up fs j) → ones (drop_all js fs) + length js ≡ ones fs
unfolding drop_all
drop-count [] fs o u = omega arith
drop-count (j ∷ js) fs o u =
    let a = ones-drop fs j (u j (inl refl)) in
    let b = drop-count js (set fs j 0) o.1 (λ k h z. u k (inr h) (sym (get_or-set_other fs j k 0 0 (λ e. o.0 (subst (λ (v : ℕ). In v js) e h))) ∙ z)) in
    omega arith

pub drop_keeps : (js fs : List ℕ) (k : ℕ) → (In k js → ⊥) → get_or (drop_all js fs) k 0 ≡ get_or fs k 0
unfolding drop_all
drop_keeps [] fs k n = refl
drop_keeps (j ∷ js) fs k n = drop_keeps js (set fs j 0) k (λ h. n (inr h)) ∙ get_or-set_other fs j k 0 0 (λ e. n (inl e))

pub ones-mono : (gs fs : List ℕ) → length gs ≡ length fs → ((k : ℕ) → Up gs k → Up fs k) → ones gs ≤ ones fs
unfolding ones
ones-mono [] fs e m = omega arith
ones-mono (g ∷ gs) [] e m = absurd (omega arith)
ones-mono (g ∷ gs) (f ∷ fs) e m = go (ones-mono gs fs (omega arith) (λ k. m (suc k))) (eqb g 0) refl (eqb f 0) refl
  where
    go : ones gs ≤ ones fs → (b : Bool) → eqb g 0 ≡ b → (d : Bool) → eqb f 0 ≡ d → ones (g ∷ gs) ≤ ones (f ∷ fs)
    go i true q true r = rw (q, r, ones) i
    go i true q false r = rw (q, r, ones) (omega arith)
    go i false q true r = absurd (m 0 (eqb-false g 0 q) (eqb-true f 0 r))
    go i false q false r = rw (q, r, ones) (suc-le-suc i)

pub get-map : (f : Cert → ℕ) (cs : List Cert) (k : ℕ) → k < length cs → get_or (map f cs) k 0 ≡ f (cert_at cs k)
unfolding cert_at
get-map f [] k h = absurd (not-suc-le-zero h)
get-map f (c ∷ cs) zero h = refl
get-map f (c ∷ cs) (suc k) h = get-map f cs k (le_of_suc-le-suc h)

pub map-up : (f : Cert → ℕ) (cs : List Cert) (k : ℕ) → Up (map f cs) k → k < length cs
map-up f [] k u = absurd (u refl)
map-up f (c ∷ cs) zero u = omega arith
map-up f (c ∷ cs) (suc k) u = suc-le-suc (map-up f cs k u)
