-- The tests of a call's shape, one after the other. Assumes nothing.
use mathlib.Core.Path.{◌≡◌, sym, ◌∙◌}
use mathlib.Core.Bool.{Bool, true, false, not, ◌&&◌}
use mathlib.Core.List.{List}
use Prim.Native.Nat.{ℕ, ◌-◌, ◌*◌, ◌/◌, ◌%◌, ◌≤◌, ◌<◌}
use native.Mathlib.Omega.{arith}
use borrow.Author.Tests.{eq-eqb, ne_eqb, le-leb, lt-leb, eqb-true, leb-true, not-true, not-false}
use lib.Dec.{eqb, leb}
use lib.ListN.{length}
use Rattle.wire.specs.Items.{items, keys, ascends}
use Rattle.table.specs.Rows.{places}
use Rattle.table.proofs.Laws.{is-long}
use Rattle.config.proofs.Laws.{both}
use Rattle.held.specs.Rows.{held_shape}
use Rattle.held.proofs.Laws.{lawful-shape}
use Rattle.accept.specs.Shape.{valid_parents, valid_certificate, has_places, valid_lent}

module _ (ps : List ℕ) where
  pub parents-over : (length ps % 32 ≡ 0 → ⊥) → false ≡ valid_parents ps
  unfolding valid_parents
  parents-over h = sym (rw (ne_eqb (length ps % 32) 0 h))

  pub parents-many : length ps % 32 ≡ 0 → 32 < length ps / 32 → false ≡ valid_parents ps
  unfolding valid_parents
  parents-many e h = sym (rw (eq-eqb (length ps % 32) 0 e, lt-leb (length ps / 32) 32 h))

  pub parents-rise : (b : Bool) → length ps % 32 ≡ 0 → length ps / 32 ≤ 32 → b ≡ ascends (keys (items 32 ps 0 (length ps / 32))) → b ≡ valid_parents ps
  unfolding valid_parents
  parents-rise b e h f = f ∙ sym (rw (eq-eqb (length ps % 32) 0 e, le-leb (length ps / 32) 32 h))

module _ (o : List ℕ) (r : ℕ) (d ps : List ℕ) where
  pub certificate-origin : (length o ≡ 32 → ⊥) → false ≡ valid_certificate o r d ps
  unfolding valid_certificate
  certificate-origin h = sym (rw (ne_eqb (length o) 32 h))

  module _ (eo : length o ≡ 32) where
    pub certificate-digest : (length d ≡ 32 → ⊥) → false ≡ valid_certificate o r d ps
    unfolding valid_certificate
    certificate-digest h = sym (rw (eq-eqb (length o) 32 eo, ne_eqb (length d) 32 h))

    module _ (ed : length d ≡ 32) where
      pub certificate-0 : r < 1 → false ≡ valid_certificate o r d ps
      unfolding valid_certificate
      certificate-0 h = sym (rw (eq-eqb (length o) 32 eo, eq-eqb (length d) 32 ed, lt-leb 1 r h))

      module _ (l : 1 ≤ r) where
        pub certificate-high : 4294967295 < r → false ≡ valid_certificate o r d ps
        unfolding valid_certificate
        certificate-high h = sym (rw (eq-eqb (length o) 32 eo, eq-eqb (length d) 32 ed, le-leb 1 r l, lt-leb r 4294967295 h))

        pub certificate-parents : (b : Bool) → r ≤ 4294967295 → b ≡ valid_parents ps → b ≡ valid_certificate o r d ps
        unfolding valid_certificate
        certificate-parents b h e = e ∙ sym (rw (eq-eqb (length o) 32 eo, eq-eqb (length d) 32 ed, le-leb 1 r l, le-leb r 4294967295 h))

module _ (size n : ℕ) (room : List ℕ) where
  pub places-over : (length room % size ≡ 0 → ⊥) → false ≡ has_places size n room
  unfolding has_places
  places-over h = sym (rw (ne_eqb (length room % size) 0 h))

  pub places-enough : length room % size ≡ 0 → leb n (length room / size) ≡ has_places size n room
  unfolding has_places
  places-enough e = sym (rw (eq-eqb (length room % size) 0 e))

module _ (n : ℕ) (st t list walk sort link : List ℕ) where
  abbrev P : ℕ
  P = (length t - 8) / 1062

  pub lent-state : (length st ≡ n * 4 → ⊥) → false ≡ valid_lent n st t list walk sort link
  unfolding valid_lent
  lent-state h = sym (rw (ne_eqb (length st) (n * 4) h))

  module _ (e₁ : length st ≡ n * 4) (b₁ : Bool) (f₁ : b₁ ≡ held_shape n t) where
    pub lent-table : not b₁ ≡ true → false ≡ valid_lent n st t list walk sort link
    unfolding valid_lent
    lent-table h = let z : held_shape n t ≡ false = sym f₁ ∙ not-true b₁ h in sym (rw (eq-eqb (length st) (n * 4) e₁, z))

    module _ (q₁ : not b₁ ≡ false) where
      z₁ : held_shape n t ≡ true
      z₁ = sym f₁ ∙ not-false b₁ q₁

      pub lent-long : 8 ≤ length t
      lent-long = is-long 1062 t (lawful-shape n t z₁)

      module _ (b₂ : Bool) (f₂ : b₂ ≡ has_places 37 ((length t - 8) / 1062) list) where
        pub lent-list : not b₂ ≡ true → false ≡ valid_lent n st t list walk sort link
        unfolding valid_lent places
        lent-list h = let z : has_places 37 P list ≡ false = sym f₂ ∙ not-true b₂ h in let y = z₁ in sym (rw (eq-eqb (length st) (n * 4) e₁, y, z))

        module _ (q₂ : not b₂ ≡ false) (b₃ : Bool) (f₃ : b₃ ≡ has_places 8 ((length t - 8) / 1062) walk) where
          z₂ : has_places 37 P list ≡ true
          z₂ = sym f₂ ∙ not-false b₂ q₂

          pub lent-walk : not b₃ ≡ true → false ≡ valid_lent n st t list walk sort link
          unfolding valid_lent places
          lent-walk h = let z : has_places 8 P walk ≡ false = sym f₃ ∙ not-true b₃ h in let y = z₁ in let x = z₂ in sym (rw (eq-eqb (length st) (n * 4) e₁, y, x, z))

          module _ (q₃ : not b₃ ≡ false) (b₄ : Bool) (f₄ : b₄ ≡ has_places 8 ((length t - 8) / 1062) sort) where
            z₃ : has_places 8 P walk ≡ true
            z₃ = sym f₃ ∙ not-false b₃ q₃

            pub lent-sort : not b₄ ≡ true → false ≡ valid_lent n st t list walk sort link
            unfolding valid_lent places
            lent-sort h =
                let z : has_places 8 P sort ≡ false = sym f₄ ∙ not-true b₄ h in
                let y = z₁ in
                let x = z₂ in
                let w = z₃ in
                sym (rw (eq-eqb (length st) (n * 4) e₁, y, x, w, z))

            pub lent-link : (b₅ : Bool) → not b₄ ≡ false → b₅ ≡ has_places 8 ((length t - 8) / 1062) link → b₅ ≡ valid_lent n st t list walk sort link
            unfolding valid_lent places
            lent-link b₅ q₄ f₅ =
                let z : has_places 8 P sort ≡ true = sym f₄ ∙ not-false b₄ q₄ in
                let y = z₁ in
                let x = z₂ in
                let w = z₃ in
                f₅ ∙ sym (rw (eq-eqb (length st) (n * 4) e₁, y, x, w, z))

-- ---- what a call in the domain has

pub record Certificate (o : List ℕ) (r : ℕ) (d ps : List ℕ) : Type 0 where
  pub origin : length o ≡ 32
  pub digest : length d ≡ 32
  pub low : 1 ≤ r
  pub high : r ≤ 4294967295
  pub whole : length ps / 32 * 32 ≡ length ps
  pub few : length ps ≤ 1024

pub certificate : (o : List ℕ) (r : ℕ) (d ps : List ℕ) → valid_certificate o r d ps ≡ true → Certificate o r d ps
unfolding valid_certificate valid_parents
certificate o r d ps e =
    let a = both (eqb (length o) 32 && eqb (length d) 32 && leb 1 r && leb r 4294967295) (valid_parents ps) e in
    let b = both (eqb (length o) 32 && eqb (length d) 32 && leb 1 r) (leb r 4294967295) a.0 in
    let c = both (eqb (length o) 32 && eqb (length d) 32) (leb 1 r) b.0 in
    let f = both (eqb (length o) 32) (eqb (length d) 32) c.0 in
    let g = both (eqb (length ps % 32) 0 && leb (length ps / 32) 32) (ascends (keys (items 32 ps 0 (length ps / 32)))) a.1 in
    let h = both (eqb (length ps % 32) 0) (leb (length ps / 32) 32) g.0 in
    let i = eqb-true (length ps % 32) 0 h.0 in
    let j = leb-true (length ps / 32) 32 h.1 in
    record {
      origin = eqb-true (length o) 32 f.0;
      digest = eqb-true (length d) 32 f.1;
      low = leb-true 1 r c.1;
      high = leb-true r 4294967295 b.1;
      whole = omega arith;
      few = omega arith;
    }

pub record Lent (n : ℕ) (st t list walk sort link : List ℕ) : Type 0 where
  pub state : length st ≡ n * 4
  pub table : held_shape n t ≡ true
  pub entries : places 1062 t * 37 ≤ length list
  pub pile : places 1062 t * 8 ≤ length walk
  pub places' : places 1062 t * 8 ≤ length sort
  pub marks : places 1062 t * 8 ≤ length link

has_room : (size n : ℕ) (room : List ℕ) → has_places size n room ≡ true → (length room % size ≡ 0) × (n ≤ length room / size)
unfolding has_places
has_room size n room e = let a = both (eqb (length room % size) 0) (leb n (length room / size)) e in (eqb-true (length room % size) 0 a.0, leb-true n (length room / size) a.1)

has-37 : (n : ℕ) (room : List ℕ) → has_places 37 n room ≡ true → n * 37 ≤ length room
has-37 n room e = let a = has_room 37 n room e in let b = a.0 in let c = a.1 in omega arith

has-8 : (n : ℕ) (room : List ℕ) → has_places 8 n room ≡ true → n * 8 ≤ length room
has-8 n room e = let a = has_room 8 n room e in let b = a.0 in let c = a.1 in omega arith

pub lent : (n : ℕ) (st t list walk sort link : List ℕ) → valid_lent n st t list walk sort link ≡ true → Lent n st t list walk sort link
unfolding valid_lent
lent n st t list walk sort link e =
    let p = places 1062 t in
    let a = both (eqb (length st) (n * 4) && held_shape n t && has_places 37 p list && has_places 8 p walk && has_places 8 p sort) (has_places 8 p link) e in
    let b = both (eqb (length st) (n * 4) && held_shape n t && has_places 37 p list && has_places 8 p walk) (has_places 8 p sort) a.0 in
    let c = both (eqb (length st) (n * 4) && held_shape n t && has_places 37 p list) (has_places 8 p walk) b.0 in
    let d = both (eqb (length st) (n * 4) && held_shape n t) (has_places 37 p list) c.0 in
    let f = both (eqb (length st) (n * 4)) (held_shape n t) d.0 in
    record {
      state = eqb-true (length st) (n * 4) f.0;
      table = f.1;
      entries = has-37 p list d.1;
      pile = has-8 p walk c.1;
      places' = has-8 p sort b.1;
      marks = has-8 p link a.1;
    }
