-- The laws of `specs/Start.antt`. Assumes nothing.
use mathlib.Core.Path.{◌≡◌, refl, sym, ap, ◌∙◌}
use mathlib.Core.Bool.{Bool, true, false, not, ◌&&◌}
use mathlib.Core.List.{List, [], ◌∷◌, ◌++◌}
use Prim.Native.Nat.{ℕ, zero, suc, ◌+◌, ◌*◌, ◌/◌, ◌≤◌, ◌<◌}
use native.Mathlib.Numerals.{add-one}
use native.Mathlib.Nat.{div-mul-le_self}
use native.Mathlib.Omega.{arith}
use lib.Dec.{eqb, leb}
use lib.ListN.{length, get_or, take, get_or-replicate}
use lib.Seq.{take-suc, take_all, length-take-le}
use borrow.Author.Tests.{eq-eqb, ne_eqb, eqb-true, le-leb, lt-leb, not-true, not-false}
use Rattle.wire.specs.Bytes.{splice}
use Rattle.wire.specs.Items.{items, item_in, flat}
use Rattle.wire.proofs.Laws.{length-splice}
use Rattle.wire.proofs.Lists.{Sized, none, one, sized-take, length-items, items-sized, item-is, item-length, length-flat, flat_append, flat-one}
use Rattle.config.specs.Members.{members_of}
use Rattle.config.specs.Committee.{valid_members, standing_of}
use Rattle.config.specs.declared.committee.Standing.{Standing}
use Rattle.std.specs.Prelude.{Option, Some, None}
use Rattle.config.proofs.Laws.{valid}
use Rattle.genesis.specs.Genesis.{record_digest, records_of, valid_genesis}
use Rattle.genesis.proofs.Laws.{valid-genesis, digest-length}
use Rattle.proposer.specs.State.{zeros, waiting_count, valid_state, next_round, advanced}
use Rattle.proposer.specs.Events.{Left, valid_pace, settled}
use Rattle.proposer.specs.Start.{digests_in, started, valid_start, start_after}
use Rattle.refusal.specs.Answers.{Answer}
use Rattle.std.specs.Array.{IsWholeChunk}
use Rattle.std.specs.Prelude.{Err}
use Rattle.refusal.specs.declared.Refusal.TheVariants.{BadCommittee, BadShape}
use Rattle.proposer.proofs.Splices.{splice-none, splice-join, get_after}
use Rattle.proposer.proofs.Values.{and_left, and_right, from-no}
use Rattle.proposer.proofs.Making.{length-zeros, all-zeros}
use Rattle.proposer.proofs.Meaning.{state-advanced}

-- ---- the digests of records
pub length-digests-in : (rs : List (List ℕ)) → length (digests_in rs) ≡ length rs
unfolding digests_in
length-digests-in [] = refl
length-digests-in (r ∷ rs) = ap suc (length-digests-in rs)

pub digests-in-sized : (rs : List (List ℕ)) → Sized 68 rs → Sized 32 (digests_in rs)
unfolding digests_in
digests-in-sized [] none = none
digests-in-sized (r ∷ rs) (one e s) = one (digest-length r (record_digest r) e refl) (digests-in-sized rs s)

digest-at : (rs : List (List ℕ)) (i : ℕ) → i < length rs → get_or (digests_in rs) i [] ≡ record_digest (get_or rs i [])
unfolding digests_in
digest-at [] i h = absurd (omega arith)
digest-at (r ∷ rs) zero h = refl
digest-at (r ∷ rs) (suc i) h = digest-at rs i (omega arith)

-- ---- `put_genesis`: the first i digests stand behind each other
pub record Gathered (g : List ℕ) (n : ℕ) (s₀ s : List ℕ) (i : ℕ) : Type 0 where
  pub high : i ≤ n
  pub same : length s ≡ length s₀
  pub is : s ≡ splice s₀ 38 (flat (take i (digests_in (items 68 g 0 n))))

module _ (g : List ℕ) (n : ℕ) (s₀ : List ℕ) (l : length s₀ ≡ 3366) (h : n * 68 ≤ length g) (few : n ≤ 32) where
  pub gathered-start : Gathered g n s₀ s₀ 0
  unfolding flat
  gathered-start = record { high = omega arith; same = refl; is = sym (splice-none s₀ 38 (omega arith)) }

  module _ (s : List ℕ) (i : ℕ) (x : Gathered g n s₀ s i) where
    pub gathered-done : n ≤ i → s ≡ splice s₀ 38 (flat (digests_in (items 68 g 0 n)))
    gathered-done m =
        let e = length-digests-in (items 68 g 0 n) in
        x.is ∙ rw (take_all i (digests_in (items 68 g 0 n)) (omega (arith, length-items 68 g 0 n)))

    module _ (m : i < n) where
      pub gathered-item : (r : List ℕ) → r ≡ item_in 68 g 0 i → length r ≡ 68
      gathered-item r e = ap length e ∙ item-length 68 g 0 n (omega arith) i m

      module _ (r d : List ℕ) (e : r ≡ item_in 68 g 0 i) (f : d ≡ record_digest r) where
        pub gathered-room : 38 + i * 32 + length d ≤ length s
        gathered-room = omega (arith, x.same, digest-length r d (gathered-item r e) f)

        pub gathered_next : (u : List ℕ) → u ≡ splice s (38 + i * 32) d → Gathered g n s₀ u (i + 1)
        gathered_next u w =
            let rs : List (List ℕ) = items 68 g 0 n in
            let ds : List (List ℕ) = digests_in rs in
            let z : Sized 32 ds = digests-in-sized rs (items-sized 68 g 0 n (omega arith)) in
            let ld : length ds ≡ n = length-digests-in rs ∙ length-items 68 g 0 n in
            let lt : length (take i ds) ≡ i = length-take-le i ds (omega arith) in
            let lf : length (flat (take i ds)) ≡ i * 32 = length-flat 32 (take i ds) (sized-take 32 ds i z) ∙ ap (λ (k : ℕ). k * 32) lt in
            let dd : length d ≡ 32 = digest-length r d (gathered-item r e) f in
            let dr : d ≡ get_or ds i [] = f ∙ ap record_digest (e ∙ item-is 68 g 0 n (omega arith) i m) ∙ sym (digest-at rs i (omega (arith, length-items 68 g 0 n))) in
            let t : flat (take (i + 1) ds) ≡ flat (take i ds) ++ d =
            rw (add-one, take-suc ds i [] (omega arith), flat_append, flat-one) (rw dr) in
            record {
              high = omega arith;
              same = ap length w ∙ length-splice s (38 + i * 32) d gathered-room ∙ x.same;
              is =
                  w
                  ∙ ap (λ (k : List ℕ). splice k (38 + i * 32) d) x.is
                  ∙ splice-join s₀ 38 (flat (take i ds)) d (38 + i * 32) (omega arith) (omega arith)
                  ∙ rw t;
            }

-- ---- `start_state`
pub records-fit : (g : List ℕ) → length g / 68 * 68 ≤ length g
records-fit g = div-mul-le_self (length g) 68

pub started-is : (own g s a b c d : List ℕ) → length s ≡ 3366 → a ≡ splice s 0 (zeros 3366) → b ≡ splice a 0 own → c ≡ next_round b 0 (length g / 68) → d ≡ splice c 38 (flat (digests_in (items 68 g 0 (length g / 68)))) → d ≡ started own g
unfolding started advanced records_of
started-is own g s a b c d l ea eb ec ed =
    let n : length (digests_in (items 68 g 0 (length g / 68))) ≡ length g / 68 = length-digests-in (items 68 g 0 (length g / 68)) ∙ length-items 68 g 0 (length g / 68) in
    ed ∙ rw (ec, eb, ea, all-zeros s 3366 l, n)

pub length-records : (g : List ℕ) → length (digests_in (records_of g)) ≡ length g / 68
unfolding records_of
length-records g = length-digests-in (items 68 g 0 (length g / 68)) ∙ length-items 68 g 0 (length g / 68)

pub records-sized : (g : List ℕ) → Sized 32 (digests_in (records_of g))
unfolding records_of
records-sized g = digests-in-sized (items 68 g 0 (length g / 68)) (items-sized 68 g 0 (length g / 68) (omega (arith, records-fit g)))

-- only the own key in it
module _ (own : List ℕ) (l : length own ≡ 32) where
  owned-fits : 0 + length own ≤ length (zeros 3366)
  owned-fits = omega (arith, length-zeros 3366)

  pub length-owned : length (splice (zeros 3366) 0 own) ≡ 3366
  length-owned = length-splice (zeros 3366) 0 own owned-fits ∙ length-zeros 3366

  zero-37 : get_or (zeros 3366) 37 0 ≡ 0
  unfolding zeros
  zero-37 = get_or-replicate 3366 37 0 0 (omega arith)

  pub owned-none : waiting_count (splice (zeros 3366) 0 own) ≡ 0
  unfolding waiting_count
  owned-none = get_after (zeros 3366) 0 own 37 owned-fits (omega arith) ∙ zero-37

  pub state-started : (g u : List ℕ) → length g / 68 ≤ 32 → u ≡ started own g → valid_state u ≡ true
  unfolding started
  state-started g u h e =
      rw e
      (state-advanced (splice (zeros 3366) 0 own) 0 (digests_in (records_of g)) length-owned (records-sized g) (omega (arith, length-records g)) (omega arith) (omega (arith, owned-none)))

-- ---- `valid_start`: its tests one after the other
module _ (ms g : List ℕ) (size timer : ℕ) (s h : List ℕ) where
  pub start-size : 4294967295 < size → false ≡ valid_start ms g size timer s h
  unfolding valid_start
  start-size a = sym (rw (lt-leb _ _ a))

  module _ (a : size ≤ 4294967295) where
    pub start-timer : 1 < timer → false ≡ valid_start ms g size timer s h
    unfolding valid_start
    start-timer b = sym (rw (le-leb _ _ a, lt-leb _ _ b))

    module _ (b : timer ≤ 1) where
      pub start-state : (length s ≡ 3366 → ⊥) → false ≡ valid_start ms g size timer s h
      unfolding valid_start
      start-state c = sym (rw (le-leb _ _ a, le-leb _ _ b, ne_eqb _ _ c))

      module _ (c : length s ≡ 3366) where
        pub start-header : (length h ≡ 3402 → ⊥) → false ≡ valid_start ms g size timer s h
        unfolding valid_start
        start-header d = sym (rw (le-leb _ _ a, le-leb _ _ b, eq-eqb _ _ c, ne_eqb _ _ d))

        pub start-last : (t : Bool) → length h ≡ 3402 → t ≡ valid_genesis ms g → t ≡ valid_start ms g size timer s h
        unfolding valid_start
        start-last t d e = e ∙ sym (rw (le-leb _ _ a, le-leb _ _ b, eq-eqb _ _ c, eq-eqb _ _ d))

  -- what it says
  module _ (t : Bool) (e : t ≡ valid_start ms g size timer s h) (f : not t ≡ false) where
    tests : valid_start ms g size timer s h ≡ true
    tests = sym e ∙ not-false t f

    sizes : leb size 4294967295 && leb timer 1 && eqb (length s) 3366 && eqb (length h) 3402 ≡ true
    unfolding valid_start
    sizes = and_left (leb size 4294967295 && leb timer 1 && eqb (length s) 3366 && eqb (length h) 3402) (valid_genesis ms g) tests

    pub start-long : length s ≡ 3366
    start-long =
        eqb-true (length s) 3366
        (and_right (leb size 4294967295 && leb timer 1) (eqb (length s) 3366)
        (and_left (leb size 4294967295 && leb timer 1 && eqb (length s) 3366) (eqb (length h) 3402) sizes))

    pub start-room : length h ≡ 3402
    start-room = eqb-true (length h) 3402 (and_right (leb size 4294967295 && leb timer 1 && eqb (length s) 3366) (eqb (length h) 3402) sizes)

    pub start-few : (v : Bool) → v ≡ valid_members ms → not v ≡ false → length g / 68 ≤ 32
    unfolding valid_start
    start-few v ev fv =
        let x = valid-genesis ms g (and_right (leb size 4294967295 && leb timer 1 && eqb (length s) 3366 && eqb (length h) 3402) (valid_genesis ms g) tests) in
        let y = valid ms (sym ev ∙ not-false v fv) in
        omega (arith, x.size, y.few)

-- ---- `proposer_start`: the tests one after the other
module _ (ms own g : List ℕ) (size timer : ℕ) (s h : List ℕ) (v : Bool) (ev : v ≡ valid_members ms) where
  pub start-no : not v ≡ true → Left (start_after ms own g size timer s h) (Err BadCommittee) s h
  unfolding start_after
  start-no f = rw (sym ev ∙ not-true v f, start_after) (record { answer = refl; state = refl; header = refl })

  module _ (fv : not v ≡ false) where
    pub start-own : (length own ≡ 32 → ⊥) → Left (start_after ms own g size timer s h) (Err BadShape) s h
    unfolding start_after
    start-own a = rw (sym ev ∙ not-false v fv, start_after, ne_eqb _ _ a, start_after) (record { answer = refl; state = refl; header = refl })

    module _ (o : List ℕ) (a : IsWholeChunk own o 32) (x : Option Standing) (ex : x ≡ standing_of (members_of ms) o) where
      pub start-stranger : x ≡ None → Left (start_after ms own g size timer s h) (Err BadCommittee) s h
      unfolding start_after
      start-stranger b = rw (sym ev ∙ not-false v fv, start_after, eq-eqb _ _ a.long, start_after, ← a.same, sym ex ∙ b, start_after) (record { answer = refl; state = refl; header = refl })

      module _ (m : Standing) (b : x ≡ Some m) where
        pub start-shape : valid_start ms g size timer s h ≡ false → Left (start_after ms own g size timer s h) (Err BadShape) s h
        unfolding start_after
        start-shape f = rw (sym ev ∙ not-false v fv, start_after, eq-eqb _ _ a.long, start_after, ← a.same, sym ex ∙ b, start_after, f, start_after) (record { answer = refl; state = refl; header = refl })

        pub start-pace : (valid_pace size timer ≡ true → false ≡ true) → Left (start_after ms own g size timer s h) (Err BadShape) s h
        unfolding valid_start valid_pace
        start-pace c = start-shape (rw (from-no (valid_pace size timer) c))

        module _ (c : valid_pace size timer ≡ true) where
          pub start-no-state : (length s ≡ 3366 → ⊥) → Left (start_after ms own g size timer s h) (Err BadShape) s h
          unfolding valid_start valid_pace
          start-no-state d = start-shape (rw (c, ne_eqb _ _ d))

          module _ (s₁ : List ℕ) (d : IsWholeChunk s s₁ 3366) where
            pub start-no-header : (length h ≡ 3402 → ⊥) → Left (start_after ms own g size timer s h) (Err BadShape) s₁ h
            unfolding valid_start valid_pace
            start-no-header e = rw d.same (start-shape (rw (c, eq-eqb _ _ d.long, ne_eqb _ _ e)))

            module _ (h₁ : List ℕ) (e : IsWholeChunk h h₁ 3402) (t : Bool) (et : t ≡ valid_genesis ms g) where
              start-is : t ≡ valid_start ms g size timer s h
              unfolding valid_start valid_pace
              start-is = et ∙ rw (c, eq-eqb _ _ d.long, eq-eqb _ _ e.long)

              pub start-genesis : not t ≡ true → Left (start_after ms own g size timer s h) (Err BadShape) s₁ h₁
              start-genesis f = rw (d.same, e.same) (start-shape (sym start-is ∙ not-true t f))

              module _ (f : not t ≡ false) where
                pub start-records : length g / 68 ≤ 32
                start-records =
                    let y = valid-genesis ms g (sym et ∙ not-false t f) in
                    let z = valid ms (sym ev ∙ not-false v fv) in
                    omega (arith, y.size, z.few)

                module _ (u : List ℕ) (i : u ≡ started o g) where
                  pub start-valid : valid_state u ≡ true
                  start-valid = state-started o (rw a.same a.long) g u start-records i

                  pub start-made : (size₁ timer₁ : ℕ) → (size₁ ≡ size) × (timer₁ ≡ timer) → (r : Answer) (s' h' : List ℕ) → Left (settled size₁ timer₁ u h₁) r s' h' → Left (start_after ms own g size timer s h) r s' h'
                  unfolding start_after
                  start-made size₁ timer₁ q r s' h' z = rw (sym ev ∙ not-false v fv, start_after, eq-eqb _ _ a.long, start_after, ← a.same, sym ex ∙ b, start_after, sym start-is ∙ not-false t f, start_after, ← a.same, ← i, ← q.0, ← q.1, ← e.same) z
