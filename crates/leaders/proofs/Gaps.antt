-- Rounds without a gap, one round at a time. Assumes nothing.
use mathlib.Core.Path.{◌≡◌, refl, sym, ap, subst, ◌∙◌}
use mathlib.Core.Bool.{Bool, true, false, not}
use mathlib.Core.List.{List}
use Prim.Native.Nat.{ℕ, suc, ◌+◌, ◌-◌, ◌≤◌, ◌<◌}
use native.Mathlib.Omega.{arith}
use Rattle.consensus.specs.Table.{Cert, is_empty, of_round}
use Rattle.consensus.proofs.Hole.{hole_in}

hole-at : (held : List Cert) (low n m u : ℕ) → m ≡ suc n → low + n ≡ u → hole_in m low held ≡ elim (is_empty (of_round u held)) [ true ↦ true | false ↦ hole_in n low held ]
unfolding hole_in
hole-at held low n m u e f = subst (λ (k : ℕ). hole_in m low held ≡ elim (is_empty (of_round k held)) [ true ↦ true | false ↦ hole_in n low held ]) f (rw (e, hole_in))

hole-step : (held : List Cert) (low upper : ℕ) → low < upper
    → hole_in (upper - low) low held ≡ elim (is_empty (of_round (upper - 1) held)) [ true ↦ true | false ↦ hole_in (upper - 1 - low) low held ]
hole-step held low upper h = hole-at held low (upper - 1 - low) (upper - low) (upper - 1) (omega arith) (omega arith)

not-not : (b : Bool) → not (not b) ≡ b
not-not true = refl
not-not false = refl

module _ (held : List Cert) (low upper : ℕ) where
  pub whole-none : upper ≤ low → true ≡ not (hole_in (upper - low) low held)
  unfolding hole_in
  whole-none h = let e : upper - low ≡ 0 = omega arith in rw e

  module _ (h : low < upper) where
    -- what is left, below a round that is held
    pub whole-lower : is_empty (of_round (upper - 1) held) ≡ false → hole_in (upper - low) low held ≡ hole_in (upper - 1 - low) low held
    whole-lower t = hole-step held low upper h ∙ rw t

    -- no hole, so the round below is held
    pub whole-held : hole_in (upper - low) low held ≡ false → is_empty (of_round (upper - 1) held) ≡ false
    whole-held e = go (is_empty (of_round (upper - 1) held)) refl
      where
        go : (b : Bool) → is_empty (of_round (upper - 1) held) ≡ b → is_empty (of_round (upper - 1) held) ≡ false
        go true t = let z : ◌≡◌ {A = Bool} true false = sym (hole-step held low upper h ∙ rw t) ∙ e in t ∙ z
        go false t = t

    module _ (b : Bool) (e : b ≡ not (is_empty (of_round (upper - 1) held))) where
      empty : (x : Bool) → not b ≡ x → is_empty (of_round (upper - 1) held) ≡ x
      empty x q = sym (not-not (is_empty (of_round (upper - 1) held))) ∙ ap not (sym e) ∙ q

      pub whole-ends : not b ≡ true → false ≡ not (hole_in (upper - low) low held)
      whole-ends q = let z : hole_in (upper - low) low held ≡ true = hole-step held low upper h ∙ rw (empty true q) in sym (ap not z)

      pub whole-on : not b ≡ false → (x : Bool) → x ≡ not (hole_in (upper - 1 - low) low held) → x ≡ not (hole_in (upper - low) low held)
      whole-on q x f = f ∙ sym (ap not (whole-lower (empty false q)))
