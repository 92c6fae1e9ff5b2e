-- Chains over items: what `position`, `all`, `any` and `sum` answer over `chunks_exact`, in the words of `specs/Items.antt`. Assumes nothing.
use mathlib.Core.Path.{◌≡◌, refl, sym, subst, ap, ◌∙◌}
use mathlib.Core.Bool.{Bool, true, false, not, cond, ◌&&◌, ◌||◌}
use mathlib.Core.Logic.{⊎_elim}
use mathlib.Core.List.{List, [], ◌∷◌, ◌++◌, map}
use Prim.Native.Nat.{ℕ, zero, suc, ◌+◌, ◌-◌, ◌*◌, ◌/◌, ◌≤◌, ◌<◌}
use native.Mathlib.Numerals.{add-one}
use native.Mathlib.Nat.{add-div_right, div-eq_of_lt, mul-div_cancel, add-zero, zero-add, suc-mul}
use native.Mathlib.Omega.{arith}
use lib.Dec.{ltb}
use lib.ListN.{length, get_or, take, drop, length-take, length-drop, length-append}
use lib.Seq.{take_at, drop_at, take-take}
use denote.Ref.{Bor}
use denote.Param.Members.{Mut, Called}
use Rattle.std.specs.Prelude.{Option, Some, None}
use Rattle.std.specs.List.{list_all, list_any, position_or_len, sum_by, fold, zip}
use Rattle.std.specs.Option.{is_some}
use Rattle.std.specs.Bool.{⊤}
use Rattle.std.specs.declared.iter.Map.{Map}
use Rattle.std.specs.Iterator.Adapters.{map_source, map_callee, map_steps}
use Rattle.std.specs.Iterator.Runs.{EachRunFrom}
use Rattle.std.proofs.lemmas.List.Sums.{sum_by-cons}
use Rattle.std.proofs.lemmas.Iterator.Consumers.{sum_by_from_yields_List, fits_by_from_yields_list}
use Rattle.std.specs.Iterator.{CallableAtEachTurn, Drains, FindsPosition, ChecksAll, ChecksAny}
use Rattle.std.specs.Slice.Iter.{chunks_exact_rest, chunks_exact_size, chunks_exact_steps}
use Rattle.std.specs.declared.slice.ChunksExact.{ChunksExact}
use Rattle.std.proofs.lemmas.Iterator.{YieldsList, YieldsList-from_map}
use Rattle.std.proofs.lemmas.Iterator.Splits.{YieldsList-from_shown_while}
use Rattle.std.proofs.lemmas.Iterator.Adapters.{serves_from_places}
use Rattle.std.proofs.lemmas.Iterator.Search.{all_from_yields_List, any_from_yields_List, position_from_yields_List}
use Rattle.wire.specs.Bytes.{part, less}
use Rattle.wire.specs.Items.{chunks, items, first_of, all_of, sum_of, key_of, keys, ascends, ascends_from}
use Rattle.std.proofs.lemmas.List.{drop-take}
use borrow.Author.Tests.{lt-ltb, le-ltb}
use Rattle.wire.proofs.Laws.{less-or-not}
use Rattle.wire.proofs.Lists.{Sized, none, one, length-chunks, items-sized}

-- ---- what `chunks_exact` gives
cut : (size : ℕ) (x r : List ℕ) → length x ≡ size → 0 < size → chunks size (x ++ r) (length (x ++ r) / size) ≡ x ∷ chunks size r (length r / size)
unfolding chunks
cut size x r e h =
    let l : length (x ++ r) ≡ length r + size = simp length-append (omega arith) in
    let q : length (x ++ r) / size ≡ suc (length r / size) = ap (λ (k : ℕ). k / size) l ∙ add-div_right (length r) h ∙ add-one (length r / size) in
    rw (q, chunks, take_at x r size e, drop_at x r size e)

abbrev Now : Bor (List ℕ) → List ℕ
Now x = x.now

abbrev Cuts : ChunksExact ℕ → List (List ℕ)
Cuts s = chunks (chunks_exact_size s) (chunks_exact_rest s) (length (chunks_exact_rest s) / chunks_exact_size s)

none-left : (s t : ChunksExact ℕ) → 0 < chunks_exact_size s → chunks_exact_steps s None t → length (Cuts s) ≡ 0
none-left s t h e = length-chunks (chunks_exact_size s) (chunks_exact_rest s) (length (chunks_exact_rest s) / chunks_exact_size s) ∙ div-eq_of_lt e.1.0

some-left : (s : ChunksExact ℕ) (x : Bor (List ℕ)) (t : ChunksExact ℕ) → 0 < chunks_exact_size s → chunks_exact_steps s (Some x) t → (0 < chunks_exact_size t) × (Cuts s ≡ x.now ∷ Cuts t)
some-left s x t h e =
    let d : chunks_exact_size t ≡ chunks_exact_size s = e.0 in
    (omega arith, rw (e.1.0, d) (cut (chunks_exact_size s) x.now (chunks_exact_rest t) e.1.1 h))

yields-cuts : (s : ChunksExact ℕ) → 0 < chunks_exact_size s → YieldsList chunks_exact_steps (λ x. x.now) s (Cuts s)
yields-cuts s h = YieldsList-from_shown_while chunks_exact_steps (λ x. x.now) (λ z. Cuts z) (λ z. 0 < chunks_exact_size z) none-left some-left s h

chunks-take : (size : ℕ) (xs : List ℕ) (n : ℕ) → chunks size (take (n * size) xs) n ≡ chunks size xs n
unfolding chunks
chunks-take size xs zero = refl
chunks-take size xs (suc n) =
    let q : suc n * size ≡ size + n * size = omega (arith, suc-mul n size) in
    let d : drop size (take (size + n * size) xs) ≡ take (n * size) (drop size xs) = drop-take size (n * size) xs in
    let t : take size (take (size + n * size) xs) ≡ take size xs = take-take size (size + n * size) xs (omega arith) in
    rw (q, d, t, chunks-take size (drop size xs) n)

-- of a part of xs: the n items from at
pub yields-items : (size : ℕ) (xs : List ℕ) (at n : ℕ) {s : ChunksExact ℕ} → chunks_exact_rest s ≡ take (at + n * size - at) (drop at xs) → chunks_exact_size s ≡ size → 1 ≤ size → at + n * size ≤ length xs → YieldsList chunks_exact_steps (λ x. x.now) s (items size xs at n)
unfolding items
yields-items size xs at n {s = s} e f h l =
    let p : 0 < chunks_exact_size s = omega arith in
    let z : 0 < size = omega arith in
    let k : at + n * size - at ≡ n * size = omega arith in
    let w : length (take (n * size) (drop at xs)) ≡ n * size = simp (length-take, length-drop) (omega arith) in
    let d : length (take (n * size) (drop at xs)) / size ≡ n = ap (λ (j : ℕ). j / size) w ∙ mul-div_cancel n z in
    let c : Cuts s ≡ chunks size (drop at xs) n = rw (e, f, k, d) (chunks-take size (drop at xs) n) in
    subst (λ (l : List (List ℕ)). YieldsList chunks_exact_steps (λ x. x.now) s l) c (yields-cuts s p)

-- of all of xs
pub yields-all : (size : ℕ) (xs : List ℕ) {s : ChunksExact ℕ} → chunks_exact_rest s ≡ xs → chunks_exact_size s ≡ size → 1 ≤ size → YieldsList chunks_exact_steps (λ x. x.now) s (items size xs 0 (length xs / size))
unfolding items
yields-all size xs {s = s} e f h =
    let p : 0 < chunks_exact_size s = omega arith in
    let c : Cuts s ≡ chunks size xs (length xs / size) = rw (e, f) in
    subst (λ (l : List (List ℕ)). YieldsList chunks_exact_steps (λ x. x.now) s l) c (yields-cuts s p)

-- ---- std's words for what is found are this project's
ltb-next : (p l : ℕ) → ltb p l ≡ ltb (1 + p) (suc l)
ltb-next p l = ⊎_elim (λ (h : p < l). lt-ltb p l h ∙ sym (lt-ltb (1 + p) (suc l) (omega arith))) (λ (h : l ≤ p). le-ltb p l h ∙ sym (le-ltb (1 + p) (suc l) (omega arith))) (less-or-not p l)

first-later : (test : List ℕ → Bool) (rs : List (List ℕ)) (i : ℕ) → first_of test rs i ≡ cond (ltb (position_or_len test rs) (length rs)) (Some (i + position_or_len test rs)) None
unfolding first_of
first-later test [] i = refl
first-later test (r ∷ rs) i =
    let p : ℕ = position_or_len test rs in
    let e : suc i + p ≡ i + (1 + p) = omega arith in
    let q : ltb p (length rs) ≡ ltb (1 + p) (suc (length rs)) = ltb-next p (length rs) in
    let n : ltb 0 (suc (length rs)) ≡ true = lt-ltb 0 (suc (length rs)) (omega arith) in
    elim (test r) as (λ (b : Bool). elim b [ true ↦ Some i | false ↦ first_of test rs (suc i) ] ≡ cond (ltb (cond (not b) (1 + p) 0) (suc (length rs))) (Some (i + cond (not b) (1 + p) 0)) None) [ true ↦ rw (n, add-zero) | false ↦ first-later test rs (suc i) ∙ rw (e, q) ]

first-is : (test : List ℕ → Bool) (rs : List (List ℕ)) → first_of test rs 0 ≡ cond (ltb (position_or_len test rs) (length rs)) (Some (position_or_len test rs)) None
first-is test rs = rw zero-add at (first-later test rs 0)

all-is : (test : List ℕ → Bool) (rs : List (List ℕ)) → list_all test rs ≡ all_of test rs
unfolding all_of
all-is test [] = refl
all-is test (r ∷ rs) = elim (test r) as (λ b. (b && list_all test rs) ≡ elim b [ true ↦ all_of test rs | false ↦ false ]) [ true ↦ all-is test rs | false ↦ refl ]

any-is : (test : List ℕ → Bool) (rs : List (List ℕ)) (i : ℕ) → list_any test rs ≡ is_some (first_of test rs i)
unfolding first_of
any-is test [] i = refl
any-is test (r ∷ rs) i = elim (test r) as (λ b. (b || list_any test rs) ≡ is_some (elim b [ true ↦ Some i | false ↦ first_of test rs (suc i) ])) [ true ↦ refl | false ↦ any-is test rs (suc i) ]

any-not : (test : List ℕ → Bool) (rs : List (List ℕ)) → list_any test rs ≡ not (all_of (λ r. not (test r)) rs)
unfolding all_of
any-not test [] = refl
any-not test (r ∷ rs) = elim (test r) as (λ b. (b || list_any test rs) ≡ not (elim (not b) [ true ↦ all_of (λ z. not (test z)) rs | false ↦ false ])) [ true ↦ refl | false ↦ any-not test rs ]

sum-is : (h : List ℕ → ℕ) (rs : List (List ℕ)) → sum_by h rs ≡ sum_of h rs
unfolding sum_of
sum-is h [] = refl
sum-is h (r ∷ rs) = sum_by-cons h r rs ∙ ap (λ (z : ℕ). h r + z) (sum-is h rs)

-- ---- the laws: what the closure answers of an item is the test of it
abbrev pub Answers : {F : Type 0} → Mut F (Bor (List ℕ) × Unit {0}) Bool → F → (List ℕ → Bool) → Type 0
Answers {F = F} g f test = (x : Bor (List ℕ)) (b : Bool) (q : F) → Called g f (x, tt) b q → (q ≡ f) × (b ≡ test x.now)

module _ {S F : Type 0} {steps : S → Option (Bor (List ℕ)) → S → Type 0} {g : Mut F (Bor (List ℕ) × Unit {0}) Bool} {s : S} {f : F} {rs : List (List ℕ)} (test : List ℕ → Bool) (u : S) where
  pub first-found : {r : Option ℕ} → FindsPosition steps g s f r u → YieldsList steps (λ x. x.now) s rs → Answers g f test → r ≡ first_of test rs 0
  first-found {r = r} h y a = position_from_yields_List test u f r h y a ∙ sym (first-is test rs)

  pub all-passed : {r : Bool} → ChecksAll steps g s f r u → YieldsList steps (λ x. x.now) s rs → Answers g f test → r ≡ all_of test rs
  all-passed {r = r} h y a = all_from_yields_List test u f r h y a ∙ all-is test rs

  -- whether one passes: as a search, and as a test of all
  pub any-found : {r : Bool} → ChecksAny steps g s f r u → YieldsList steps (λ x. x.now) s rs → Answers g f test → r ≡ is_some (first_of test rs 0)
  any-found {r = r} h y a = any_from_yields_List test u f r h y a ∙ any-is test rs 0

  pub any-passed : {r : Bool} → ChecksAny steps g s f r u → YieldsList steps (λ x. x.now) s rs → Answers g f test → r ≡ not (all_of (λ z. not (test z)) rs)
  any-passed {r = r} h y a = any_from_yields_List test u f r h y a ∙ any-not test rs

-- `map`: what the closure answers of an item is the number h says of it
pub yields-numbers : {S F : Type 0} {steps : S → Option (Bor (List ℕ)) → S → Type 0} {g : Mut F (Bor (List ℕ) × Unit {0}) ℕ} {s : Map S F} {z : S} {f : F} {rs : List (List ℕ)} (h : List ℕ → ℕ) → map_source s ≡ z → map_callee s ≡ f → YieldsList steps (λ x. x.now) z rs
    → ((x : Bor (List ℕ)) (r : ℕ) (q : F) → Called g f (x, tt) r q → (q ≡ f) × (r ≡ h x.now)) → YieldsList (map_steps steps g) (λ x. x) s (map h rs)
yields-numbers {steps = steps} {rs = rs} h d e y a = YieldsList-from_map _ h (subst (λ z. YieldsList steps (λ x. x.now) z rs) (sym d) y) e a

-- `sum` of those numbers, and that it fits
module _ {S : Type 0} {steps : S → Option ℕ → S → Type 0} (h : List ℕ → ℕ) (rs : List (List ℕ)) {s : S} where
  pub sum-found : {r : ℕ} → (xs : List ℕ) × (⊤ → Drains steps s xs) × (r ≡ fold (λ a x. a + x) 0 xs) → YieldsList steps (λ x. x) s (map h rs) → r ≡ sum_of h rs
  sum-found {r = r} d y = sum_by_from_yields_List h rs s r d y ∙ sum-is h rs

  pub sum-fits : (top : ℕ) → YieldsList steps (λ x. x) s (map h rs) → sum_of h rs < top → EachRunFrom steps s (λ p. fold (λ a x. a + x) 0 p.items < top)
  sum-fits top y l = fits_by_from_yields_list h rs s top y (subst (λ (z : ℕ). z < top) (sym (sum-is h rs)) l)

-- tests that agree on items of the size find the same
first-alike : (size : ℕ) (f g : List ℕ → Bool) (rs : List (List ℕ)) (i : ℕ) → Sized size rs → ((r : List ℕ) → length r ≡ size → f r ≡ g r) → first_of f rs i ≡ first_of g rs i
unfolding first_of
first-alike size f g [] i none a = refl
first-alike size f g (r ∷ rs) i (one e s) a =
    ap (λ (b : Bool). elim b [ true ↦ Some i | false ↦ first_of f rs (suc i) ]) (a r e)
    ∙ ap (λ (o : Option ℕ). elim (g r) [ true ↦ Some i | false ↦ o ]) (first-alike size f g rs (suc i) s a)

all-alike : (size : ℕ) (f g : List ℕ → Bool) (rs : List (List ℕ)) → Sized size rs → ((r : List ℕ) → length r ≡ size → f r ≡ g r) → all_of f rs ≡ all_of g rs
unfolding all_of
all-alike size f g [] none a = refl
all-alike size f g (r ∷ rs) (one e s) a =
    ap (λ (b : Bool). elim b [ true ↦ all_of f rs | false ↦ false ]) (a r e)
    ∙ ap (λ (o : Bool). elim (g r) [ true ↦ o | false ↦ false ]) (all-alike size f g rs s a)

module _ (size : ℕ) (xs : List ℕ) (at n : ℕ) (h : at + n * size ≤ length xs) (f g : List ℕ → Bool) (a : (r : List ℕ) → length r ≡ size → f r ≡ g r) where
  pub first-same : (i : ℕ) → first_of f (items size xs at n) i ≡ first_of g (items size xs at n) i
  first-same i = first-alike size f g (items size xs at n) i (items-sized size xs at n h) a

  pub all-same : all_of f (items size xs at n) ≡ all_of g (items size xs at n)
  all-same = all-alike size f g (items size xs at n) (items-sized size xs at n h) a

-- ---- items in pairs
pair-sized : (a b : ℕ) (rs ss : List (List ℕ)) (k : ℕ) (p : List ℕ × List ℕ) → Sized a rs → Sized b ss → k < length (zip rs ss) → p ≡ get_or (zip rs ss) k p → (length p.0 ≡ a) × (length p.1 ≡ b)
pair-sized a b [] ss k p s t h e = absurd (omega arith)
pair-sized a b (r ∷ rs) [] k p s t h e = absurd (omega arith)
pair-sized a b (r ∷ rs) (x ∷ ss) zero p (one e1 s) (one e2 t) h e = (ap (λ (z : List ℕ × List ℕ). length z.0) e ∙ e1, ap (λ (z : List ℕ × List ℕ). length z.1) e ∙ e2)
pair-sized a b (r ∷ rs) (x ∷ ss) (suc k) p (one e1 s) (one e2 t) h e = pair-sized a b rs ss k p s t (omega arith) e

-- a closure may be called at each pair, where the lengths allow it
pub calls-pairs : {S F : Type 0} {steps : S → Option (Bor (List ℕ) × Bor (List ℕ)) → S → Type 0} {s : S} (a b : ℕ) (rs ss : List (List ℕ)) → YieldsList {B = List ℕ × List ℕ} steps (λ x. (x.0.now, x.1.now)) s (zip rs ss) → Sized a rs → Sized b ss
    → {R : F → Bor (List ℕ) × Bor (List ℕ) → F → Type 0} {Q : F → Bor (List ℕ) × Bor (List ℕ) → Type 0} {f : F} → ((x : Bor (List ℕ) × Bor (List ℕ)) (q : F) → R f x q → q ≡ f)
    → ((x : Bor (List ℕ) × Bor (List ℕ)) → length x.0.now ≡ a → length x.1.now ≡ b → Q f x) → CallableAtEachTurn steps R Q s f
calls-pairs a b rs ss y s t keeps q = serves_from_places y keeps (λ x k l e. let z = pair-sized a b rs ss k (x.0.now, x.1.now) s t l e in q x z.0 z.1)

-- each comes before the next
pub both-tests : (a b : Bool) → (a && b) ≡ elim a [ true ↦ b | false ↦ false ]
both-tests true b = refl
both-tests false b = refl

rises : (r : List ℕ) (rs : List (List ℕ)) → list_all (λ (p : List ℕ × List ℕ). less (part p.0 0 32) (part p.1 0 32)) (zip (r ∷ rs) rs) ≡ ascends_from (key_of r) (keys rs)
unfolding ascends_from keys key_of
rises r [] = refl
rises r (x ∷ rs) = ap (λ (o : Bool). less (part r 0 32) (part x 0 32) && o) (rises x rs) ∙ both-tests (less (part r 0 32) (part x 0 32)) (ascends_from (key_of x) (keys rs))

pub rises-all : (rs : List (List ℕ)) → list_all (λ (p : List ℕ × List ℕ). less (part p.0 0 32) (part p.1 0 32)) (zip rs (drop 1 rs)) ≡ ascends (keys rs)
unfolding ascends keys
rises-all [] = refl
rises-all (r ∷ rs) = rises r rs

pub sized-drop : (size : ℕ) (rs : List (List ℕ)) (i : ℕ) → Sized size rs → Sized size (drop i rs)
sized-drop size [] zero none = none
sized-drop size [] (suc i) none = none
sized-drop size (r ∷ rs) zero (one e s) = one e s
sized-drop size (r ∷ rs) (suc i) (one e s) = sized-drop size rs i s
