-- Which refusal, or what is to be done, step by step. Assumes nothing.
use mathlib.Core.Path.{◌≡◌, refl, sym, ◌∙◌}
use mathlib.Core.Bool.{Bool, true, false, not, ◌||◌}
use mathlib.Core.List.{List}
use Prim.Native.Nat.{ℕ, ◌<◌, ◌≤◌}
use native.Mathlib.Omega.{arith}
use borrow.Author.Tests.{lt-ltb, le-ltb, not-true, not-false}
use lib.Dec.{ltb}
use lib.ListN.{length}
use Rattle.table.specs.Rows.{count_of, places}
use Rattle.consensus.specs.Table.{Cert, clash, holds_pair, pair_place}
use Rattle.consensus.specs.Leaders.{Agreed, decide}
use Rattle.held.specs.Rows.{held_of, lasts_of, state_of}
use Rattle.held.proofs.Laws.{length-held}
use Rattle.held.proofs.Putting.{holds-place}
use Rattle.leaders.specs.Setup.{kind_of}
use Rattle.std.specs.Prelude.{Result, Err, Option, Some, None, IfSome}
use Rattle.std.specs.Option.{unwrap_or, is_some}
use Rattle.wire.proofs.Laws.{true-not-false}
use Rattle.refusal.specs.declared.Refusal.{Refusal}
use Rattle.accept.specs.Course.{course_of}
use Rattle.refusal.specs.declared.Refusal.TheVariants.{NoRoom, DigestClash}

-- ---- a place for it

module _ (t : List ℕ) (o r i n : ℕ) (ei : i ≡ pair_place o r (held_of t)) (en : n ≡ count_of t) where
  pub place-there : i < n → true ≡ (ltb (pair_place o r (held_of t)) (count_of t) || ltb (count_of t) (places 1062 t))
  place-there h = sym (rw (lt-ltb (pair_place o r (held_of t)) (count_of t) (omega arith)))

  pub place-free : (b : Bool) → n ≤ i → b ≡ ltb (count_of t) (places 1062 t) → b ≡ (ltb (pair_place o r (held_of t)) (count_of t) || ltb (count_of t) (places 1062 t))
  place-free b h e = e ∙ sym (rw (le-ltb (pair_place o r (held_of t)) (count_of t) (omega arith)))

-- the place that is told; where none is told, the definition says how many are held
pub told-there : (t : List ℕ) (o r : ℕ) (f : Option ℕ) (b : Bool) → unwrap_or f (count_of t) ≡ pair_place o r (held_of t) → IfSome f (λ i. i < count_of t) → b ≡ is_some f → b ≡ true
    → true ≡ (ltb (pair_place o r (held_of t)) (count_of t) || ltb (count_of t) (places 1062 t))
told-there t o r None b e w h q = absurd (true-not-false (sym q ∙ h))
told-there t o r (Some i) b e w h q = place-there t o r i (count_of t) e refl w

pub told-free : (t : List ℕ) (o r : ℕ) (f : Option ℕ) (b c : Bool) → unwrap_or f (count_of t) ≡ pair_place o r (held_of t) → b ≡ is_some f → b ≡ false → c ≡ ltb (count_of t) (places 1062 t)
    → c ≡ (ltb (pair_place o r (held_of t)) (count_of t) || ltb (count_of t) (places 1062 t))
told-free t o r None b c e h q g = place-free t o r (count_of t) (count_of t) e refl c (omega arith) g
told-free t o r (Some i) b c e h q g = absurd (true-not-false (sym h ∙ q))

-- ---- the course

module _ (a : Agreed) (st t : List ℕ) (x : Cert) (b : Bool) (eb : b ≡ clash x (held_of t)) where
  pub course-clash : b ≡ true → Err DigestClash ≡ course_of a (places 1062 t) (state_of st t) x
  unfolding course_of state_of
  course-clash h = let z : clash x (held_of t) ≡ true = sym eb ∙ h in sym (rw (z, course_of))

  module _ (q : b ≡ false) (c : Bool) (ec : c ≡ (ltb (pair_place x.origin x.round (held_of t)) (count_of t) || ltb (count_of t) (places 1062 t))) where
    room-is : (holds_pair x (held_of t) || ltb (length (held_of t)) (places 1062 t)) ≡ c
    room-is = rw (holds-place x (held_of t), length-held t) (sym ec)

    pub course-full : not c ≡ true → Err NoRoom ≡ course_of a (places 1062 t) (state_of st t) x
    unfolding course_of state_of
    course-full h =
        let z : clash x (held_of t) ≡ false = sym eb ∙ q in
        let y : (holds_pair x (held_of t) || ltb (length (held_of t)) (places 1062 t)) ≡ false = room-is ∙ not-true c h in
        sym (rw (z, y, course_of))

    pub course-on : (d : Result Bool Refusal) → not c ≡ false → d ≡ kind_of (decide a x.round (lasts_of st) (held_of t)) → d ≡ course_of a (places 1062 t) (state_of st t) x
    unfolding course_of state_of
    course-on d h ed =
        let z : clash x (held_of t) ≡ false = sym eb ∙ q in
        let y : (holds_pair x (held_of t) || ltb (length (held_of t)) (places 1062 t)) ≡ true = room-is ∙ not-false c h in
        ed ∙ sym (rw (z, y, course_of))
