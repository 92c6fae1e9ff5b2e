-- The laws of `specs/Certificates.antt` on a call: its shape, its place, and each way through it. Assumes nothing.
use mathlib.Core.Path.{◌≡◌, refl, sym, ap, ◌∙◌}
use mathlib.Core.Bool.{Bool, true, false, not, ◌&&◌}
use mathlib.Core.List.{List, []}
use Prim.Native.Nat.{ℕ, ◌≤◌, ◌<◌}
use native.Mathlib.Omega.{arith}
use lib.Dec.{eqb, ltb, leb}
use lib.ListN.{length, get_or}
use borrow.Author.Tests.{eq-eqb, ne_eqb, eqb-true, leb-true, leb-false, ltb-true, not-false}
use Rattle.wire.specs.Bytes.{splice}
use Rattle.wire.specs.Items.{item_in, first_of, flat}
use Rattle.std.specs.Prelude.{Option, Some, None}
use Rattle.table.specs.Rows.{count_of, places, shaped, rows_of, with_row, appended}
use Rattle.table.proofs.Laws.{row_below, row_is, row-length}
use Rattle.config.specs.Committee.{valid_members}
use Rattle.config.proofs.Laws.{both}
use Rattle.aggregators.specs.Weight.{is_in}
use Rattle.aggregators.specs.Certificates.{pair_count, pairs_of, with_pair, empty_row, of_round, are_counts, given, place_in, place_for, stay, grow, certificate_shape, count_certificate, CountsCertificate, Gives, CountsIn}
use Rattle.std.specs.Prelude.{Result, Ok, Err}
use Rattle.refusal.specs.declared.Refusal.{Refusal}
use Rattle.refusal.specs.declared.Refusal.TheVariants.{BadCommittee, BadShape, NoRoom}
use Rattle.aggregators.specs.declared.rounds.Place.{Place}
use Rattle.aggregators.specs.declared.rounds.Place.TheVariants.{Counted, Row, New}
use Rattle.aggregators.proofs.Counting.{counts-table}
use Rattle.aggregators.proofs.Giving.{length-empty, count-empty}

-- ---- the tests of shape, one after the other
module _ (t : List ℕ) (round : ℕ) (origin digest out : List ℕ) where
  pub shape-counts : are_counts t ≡ false → certificate_shape t round origin digest out ≡ false
  unfolding certificate_shape
  shape-counts e = rw e

  module _ (e : are_counts t ≡ true) where
    pub shape-round : leb 1 round && leb round 4294967295 ≡ false → certificate_shape t round origin digest out ≡ false
    unfolding certificate_shape
    shape-round l = rw e (go (leb 1 round) (leb round 4294967295) l) where
      go : (a b : Bool) → a && b ≡ false → true && a && b && eqb (length origin) 32 && eqb (length digest) 32 && eqb (length out) 1024 ≡ false
      go true true f = cc
      go true false f = refl
      go false b f = refl

    module _ (l : leb 1 round && leb round 4294967295 ≡ true) where
      low : leb 1 round ≡ true
      low = (both _ _ l).0

      high : leb round 4294967295 ≡ true
      high = (both _ _ l).1

      pub shape-origin : (length origin ≡ 32 → ⊥) → certificate_shape t round origin digest out ≡ false
      unfolding certificate_shape
      shape-origin p = rw (e, low, high, ne_eqb (length origin) 32 p)

      module _ (p : length origin ≡ 32) where
        pub shape-digest : (length digest ≡ 32 → ⊥) → certificate_shape t round origin digest out ≡ false
        unfolding certificate_shape
        shape-digest q = rw (e, low, high, eq-eqb (length origin) 32 p, ne_eqb (length digest) 32 q)

        module _ (q : length digest ≡ 32) where
          pub shape-out : (length out ≡ 1024 → ⊥) → certificate_shape t round origin digest out ≡ false
          unfolding certificate_shape
          shape-out o = rw (e, low, high, eq-eqb (length origin) 32 p, eq-eqb (length digest) 32 q, ne_eqb (length out) 1024 o)

          pub shape-right : length out ≡ 1024 → certificate_shape t round origin digest out ≡ true
          unfolding certificate_shape
          shape-right o = rw (e, low, high, eq-eqb (length origin) 32 p, eq-eqb (length digest) 32 q, eq-eqb (length out) 1024 o)

-- the round is one of 32 bits
pub round-small : (round : ℕ) (b : Bool) → b ≡ (leb 1 round && leb round 4294967295) → b ≡ true → round ≤ 4294967295
round-small round b e f = leb-true _ _ (both _ _ (sym e ∙ f)).1

-- what the shape says
pub record InShape (t : List ℕ) (round : ℕ) (origin digest out : List ℕ) : Type 0 where
  pub counts : are_counts t ≡ true
  pub table : shaped 2053 t ≡ true
  pub low : 1 ≤ round
  pub high : round ≤ 4294967295
  pub key : length origin ≡ 32
  pub name : length digest ≡ 32
  pub room : length out ≡ 1024

pub in-shape : (t : List ℕ) (round : ℕ) (origin digest out : List ℕ) (b : Bool) → b ≡ certificate_shape t round origin digest out → not b ≡ false → InShape t round origin digest out
unfolding certificate_shape
in-shape t round origin digest out b f g =
    let a = both _ _ (sym f ∙ not-false b g) in
    let c = both _ _ a.0 in
    let d = both _ _ c.0 in
    let i = both _ _ d.0 in
    let j = both _ _ i.0 in
    record {
      counts = j.0;
      table = counts-table t j.0;
      low = leb-true _ _ j.1;
      high = leb-true _ _ i.1;
      key = eqb-true _ _ d.1;
      name = eqb-true _ _ c.1;
      room = eqb-true _ _ a.1;
    }

-- ---- what a place says
record Open (row : List ℕ) (i j : ℕ) : Type 0 where
  same : i ≡ j
  few : pair_count row < 32

open_row : (row origin : List ℕ) (i j : ℕ) → place_in row origin i ≡ Ok (Row j) → Open row i j
unfolding place_in
open_row row origin i j h = go (is_in origin (pairs_of row)) refl (leb 32 (pair_count row)) refl h where
  go : (b : Bool) → is_in origin (pairs_of row) ≡ b → (d : Bool) → leb 32 (pair_count row) ≡ d → place_in row origin i ≡ Ok (Row j) → Open row i j
  go true e d f h = let z : ◌≡◌ {A = ℕ} 0 1 = cc (rw (e, place_in) at h) in absurd (omega arith)
  go false e true f h = let z : ◌≡◌ {A = ℕ} 0 1 = cc (rw (e, place_in, f, place_in) at h) in absurd (omega arith)
  go false e false f h =
      let z : i ≡ j = cc (rw (e, place_in, f, place_in) at h) in
      record { same = z; few = leb-false 32 (pair_count row) f }

not_new : (row origin : List ℕ) (i : ℕ) → place_in row origin i ≡ Ok New → ⊥
unfolding place_in
not_new row origin i h = go (is_in origin (pairs_of row)) refl (leb 32 (pair_count row)) refl h where
  go : (b : Bool) → is_in origin (pairs_of row) ≡ b → (d : Bool) → leb 32 (pair_count row) ≡ d → place_in row origin i ≡ Ok New → ⊥
  go true e d f h = let z : ◌≡◌ {A = ℕ} 0 1 = cc (rw (e, place_in) at h) in omega arith
  go false e true f h = let z : ◌≡◌ {A = ℕ} 0 1 = cc (rw (e, place_in, f, place_in) at h) in omega arith
  go false e false f h = let z : ◌≡◌ {A = ℕ} 0 1 = cc (rw (e, place_in, f, place_in) at h) in omega arith

pub record InRow (t : List ℕ) (i : ℕ) : Type 0 where
  pub below : i < count_of t
  pub few : pair_count (get_or (rows_of 2053 t) i []) < 32

module _ (t : List ℕ) (round : ℕ) (origin : List ℕ) (s : shaped 2053 t ≡ true) (p : Result Place Refusal) (k : p ≡ place_for t round origin) where
  pub in_row : (i : ℕ) → p ≡ Ok (Row i) → InRow t i
  unfolding place_for
  in_row i g = go (first_of (of_round round) (rows_of 2053 t) 0) refl (sym k ∙ g) where
    go : (f : Option ℕ) → first_of (of_round round) (rows_of 2053 t) 0 ≡ f → place_for t round origin ≡ Ok (Row i) → InRow t i
    go (Some j) e h =
        let o = open_row (get_or (rows_of 2053 t) j []) origin j i (rw (e, place_for) at h) in
        let b = row_below 2053 (of_round round) t (Some j) j s (sym e) refl in
        record { below = omega (arith, o.same); few = rw o.same at o.few }
    go None e h = more (ltb (count_of t) (places 2053 t)) refl (rw (e, place_for) at h) where
      more : (b : Bool) → ltb (count_of t) (places 2053 t) ≡ b → ◌≡◌ {A = Result Place Refusal} (elim (ltb (count_of t) (places 2053 t)) [ true ↦ Ok New | false ↦ Err NoRoom ]) (Ok (Row i)) → InRow t i
      more true e h = let z : ◌≡◌ {A = ℕ} 0 1 = cc (rw e at h) in absurd (omega arith)
      more false e h = let z : ◌≡◌ {A = ℕ} 0 1 = cc (rw e at h) in absurd (omega arith)

  pub in-new : p ≡ Ok New → count_of t < places 2053 t
  unfolding place_for
  in-new g = go (first_of (of_round round) (rows_of 2053 t) 0) refl (sym k ∙ g) where
    go : (f : Option ℕ) → first_of (of_round round) (rows_of 2053 t) 0 ≡ f → place_for t round origin ≡ Ok New → count_of t < places 2053 t
    go (Some j) e h = absurd (not_new (get_or (rows_of 2053 t) j []) origin j (rw (e, place_for) at h))
    go None e h = more (ltb (count_of t) (places 2053 t)) refl (rw (e, place_for) at h) where
      more : (b : Bool) → ltb (count_of t) (places 2053 t) ≡ b → ◌≡◌ {A = Result Place Refusal} (elim (ltb (count_of t) (places 2053 t)) [ true ↦ Ok New | false ↦ Err NoRoom ]) (Ok New) → count_of t < places 2053 t
      more true e h = ltb-true (count_of t) (places 2053 t) e
      more false e h = let z : ◌≡◌ {A = ℕ} 0 1 = cc (rw e at h) in absurd (omega arith)

-- ---- counting in a row of the table
module _ (ms t : List ℕ) (i : ℕ) (s : shaped 2053 t ≡ true) (l : i < count_of t) (r : List ℕ) (e : r ≡ item_in 2053 t 8 i) where
  pub item-long : length r ≡ 2053
  item-long = ap length e ∙ row-length 2053 t i s l

  item-row : r ≡ get_or (rows_of 2053 t) i []
  item-row = e ∙ row_is 2053 t i s l

  pub item-open : pair_count (get_or (rows_of 2053 t) i []) < 32 → pair_count r < 32
  item-open h = rw item-row h

  pub row-counted : (origin digest out : List ℕ) (n : ℕ) (u o : List ℕ) → Gives (given ms r origin digest) out n o → u ≡ with_row 2053 t i (with_pair (get_or (rows_of 2053 t) i []) origin digest) → CountsIn (given ms (get_or (rows_of 2053 t) i []) origin digest) (with_row 2053 t i (with_pair (get_or (rows_of 2053 t) i []) origin digest)) out n u o
  row-counted origin digest out n u o g f =
      let z : given ms r origin digest ≡ given ms (get_or (rows_of 2053 t) i []) origin digest = ap (λ (x : List ℕ). given ms x origin digest) item-row in
      record { many = g.many ∙ ap length z; counts = f; buffer = g.buffer ∙ ap (λ (x : List (List ℕ)). splice out 0 (flat x)) z }

-- ---- counting in a new row
module _ (round : ℕ) (r : List ℕ) (e : r ≡ empty_row round) where
  pub new-long : length r ≡ 2053
  new-long = ap length e ∙ length-empty round

  pub new-open : pair_count r < 32
  new-open = rw e (omega (arith, count-empty round))

  pub new-counted : (ms t origin digest out : List ℕ) (n : ℕ) (v u o : List ℕ) → Gives (given ms r origin digest) out n o → v ≡ with_pair r origin digest → u ≡ appended 2053 t v → CountsIn (given ms (empty_row round) origin digest) (appended 2053 t (with_pair (empty_row round) origin digest)) out n u o
  new-counted ms t origin digest out n v u o g f h =
      let z : given ms r origin digest ≡ given ms (empty_row round) origin digest = ap (λ (x : List ℕ). given ms x origin digest) e in
      record {
        many = g.many ∙ ap length z;
        counts = h ∙ ap (appended 2053 t) (f ∙ ap (λ (x : List ℕ). with_pair x origin digest) e);
        buffer = g.buffer ∙ ap (λ (x : List (List ℕ)). splice out 0 (flat x)) z;
      }

-- ---- the call, one law for each way through it: ms', t', origin' and digest' are what the tests give back of what they are passed
module _ (ms t : List ℕ) (round : ℕ) (origin digest out : List ℕ) where
  pub cert-committee : (r : Refusal) → r ≡ BadCommittee → valid_members ms ≡ false → CountsCertificate ms t round origin digest out (Err r) t out
  unfolding count_certificate stay
  cert-committee r e h =
      let z : count_certificate ms t round origin digest out ≡ stay (Err BadCommittee) t out = rw (h, count_certificate) in
      rw e (record { answer = rw z; counts = rw z; buffer = rw z })

  module _ (ms' : List ℕ) (v : valid_members ms' ≡ true) (m : ms' ≡ ms) where
    lawful : valid_members ms ≡ true
    lawful = ap valid_members (sym m) ∙ v

    pub cert-shape : certificate_shape t round origin digest out ≡ false → CountsCertificate ms t round origin digest out (Err BadShape) t out
    unfolding count_certificate stay
    cert-shape f =
        let z : count_certificate ms t round origin digest out ≡ stay (Err BadShape) t out = rw (lawful, count_certificate, f, count_certificate) in
        record { answer = rw z; counts = rw z; buffer = rw z }

    pub cert-table : (r : Refusal) → r ≡ BadShape → are_counts t ≡ false → CountsCertificate ms t round origin digest out (Err r) t out
    cert-table r e f = rw e (cert-shape (shape-counts t round origin digest out f))

    module _ (a : are_counts t ≡ true) where
      module _ (n : Bool) (w : n ≡ (leb 1 round && leb round 4294967295)) where
        pub cert-round : n ≡ false → CountsCertificate ms t round origin digest out (Err BadShape) t out
        cert-round f = cert-shape (shape-round t round origin digest out a (sym w ∙ f))

        module _ (y : n ≡ true) where
          l : leb 1 round && leb round 4294967295 ≡ true
          l = sym w ∙ y

          pub cert-origin : (r : Refusal) → r ≡ BadShape → (length origin ≡ 32 → ⊥) → CountsCertificate ms t round origin digest out (Err r) t out
          cert-origin r e f = rw e (cert-shape (shape-origin t round origin digest out a l f))

          module _ (lo : length origin ≡ 32) where
            pub cert-digest : (r : Refusal) → r ≡ BadShape → (length digest ≡ 32 → ⊥) → CountsCertificate ms t round origin digest out (Err r) t out
            cert-digest r e f = rw e (cert-shape (shape-digest t round origin digest out a l lo f))

            module _ (ld : length digest ≡ 32) where
              pub cert-out : (length out ≡ 1024 → ⊥) → CountsCertificate ms t round origin digest out (Err BadShape) t out
              cert-out f = cert-shape (shape-out t round origin digest out a l lo ld f)

              module _ (b : length out ≡ 1024) (t' origin' : List ℕ) (e : t' ≡ t) (f : origin' ≡ origin) (p : Result Place Refusal) (k : p ≡ place_for t' round origin') where
                right : certificate_shape t round origin digest out ≡ true
                right = shape-right t round origin digest out a l lo ld b

                place : p ≡ place_for t round origin
                place = k ∙ rw (e, f)

                pub cert-counted : p ≡ Ok Counted → CountsCertificate ms t round origin digest out (Ok 0) t out
                unfolding count_certificate stay
                cert-counted q =
                    let z : count_certificate ms t round origin digest out ≡ stay (Ok 0) t out = rw (lawful, count_certificate, right, count_certificate, sym place ∙ q, count_certificate) in
                    record { answer = rw z; counts = rw z; buffer = rw z }

                pub cert_refused : (r : Refusal) → p ≡ Err r → CountsCertificate ms t round origin digest out (Err r) t out
                unfolding count_certificate stay
                cert_refused r q =
                    let z : count_certificate ms t round origin digest out ≡ stay (Err r) t out = rw (lawful, count_certificate, right, count_certificate, sym place ∙ q, count_certificate) in
                    record { answer = rw z; counts = rw z; buffer = rw z }

                module _ (digest' : List ℕ) (g : digest' ≡ digest) (j : ℕ) (u o : List ℕ) where
                  pub cert-row : (i : ℕ) → p ≡ Ok (Row i) → CountsIn (given ms' (get_or (rows_of 2053 t) i []) origin' digest') (with_row 2053 t i (with_pair (get_or (rows_of 2053 t) i []) origin' digest')) out j u o → CountsCertificate ms t round origin digest out (Ok j) u o
                  unfolding count_certificate grow
                  cert-row i q x =
                      let z : count_certificate ms t round origin digest out ≡ grow (given ms (get_or (rows_of 2053 t) i []) origin digest) (with_row 2053 t i (with_pair (get_or (rows_of 2053 t) i []) origin digest)) out = rw (lawful, count_certificate, right, count_certificate, sym place ∙ q, count_certificate) in
                      let s = rw (m, f, g) at x in
                      record { answer = ap Ok s.many ∙ rw z; counts = s.counts ∙ rw z; buffer = s.buffer ∙ rw z }

                  pub cert-new : p ≡ Ok New → CountsIn (given ms' (empty_row round) origin' digest') (appended 2053 t (with_pair (empty_row round) origin' digest')) out j u o → CountsCertificate ms t round origin digest out (Ok j) u o
                  unfolding count_certificate grow
                  cert-new q x =
                      let z : count_certificate ms t round origin digest out ≡ grow (given ms (empty_row round) origin digest) (appended 2053 t (with_pair (empty_row round) origin digest)) out = rw (lawful, count_certificate, right, count_certificate, sym place ∙ q, count_certificate) in
                      let s = rw (m, f, g) at x in
                      record { answer = ap Ok s.many ∙ rw z; counts = s.counts ∙ rw z; buffer = s.buffer ∙ rw z }
