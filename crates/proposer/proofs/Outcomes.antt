-- The laws of `specs/Events.antt`, one for each way through a function: what it gives back and leaves is what the definition says. Assumes nothing.
use mathlib.Core.Path.{◌≡◌, refl, sym, ◌∙◌}
use mathlib.Core.Bool.{Bool, true, false, not, ◌&&◌}
use mathlib.Core.List.{List}
use Prim.Native.Nat.{ℕ, ◌/◌, ◌%◌, ◌≤◌, ◌<◌}
use native.Mathlib.Omega.{arith}
use lib.Dec.{eqb, leb}
use lib.ListN.{length}
use borrow.Author.Tests.{eq-eqb, ne_eqb, eqb-true, le-ltb, lt-ltb, le-leb, lt-leb, not-true, not-false}
use Rattle.proposer.specs.State.{round_in, waiting_count, valid_state, due_header, digests_of, advanced, added, emptied}
use Rattle.proposer.specs.Header.{header_made}
use Rattle.proposer.specs.Events.{Left, settled, received, valid_parents, parents_after, valid_digest, digest_after, valid_pace, valid_call, by_tag, event_after}
use Rattle.refusal.specs.Answers.{Answer}
use Rattle.std.specs.Array.{IsWholeChunk}
use Rattle.std.specs.Prelude.{Ok, Err}
use Rattle.refusal.specs.declared.Refusal.TheVariants.{BadShape, NoRoom}
use Rattle.proposer.proofs.Values.{and_left, and_right, from-no, is_state, state-size, length-digests}
use Rattle.proposer.proofs.Meaning.{state-advanced, state-added, digests-sized}

-- ---- `valid_call`: its tests one after the other
module _ (size timer : ℕ) (s h : List ℕ) where
  pub call-size : 4294967295 < size → false ≡ valid_call size timer s h
  unfolding valid_call
  call-size a = sym (rw (lt-leb _ _ a))

  pub call-timer : size ≤ 4294967295 → 1 < timer → false ≡ valid_call size timer s h
  unfolding valid_call
  call-timer a b = sym (rw (le-leb _ _ a, lt-leb _ _ b))

  pub call-header : size ≤ 4294967295 → timer ≤ 1 → (length h ≡ 3402 → ⊥) → false ≡ valid_call size timer s h
  unfolding valid_call
  call-header a b c = sym (rw (le-leb _ _ a, le-leb _ _ b, ne_eqb _ _ c))

  pub call-last : (t : Bool) → size ≤ 4294967295 → timer ≤ 1 → length h ≡ 3402 → t ≡ valid_state s → t ≡ valid_call size timer s h
  unfolding valid_call
  call-last t a b c d = d ∙ sym (rw (le-leb _ _ a, le-leb _ _ b, eq-eqb _ _ c))

  module _ (t : Bool) (e : t ≡ valid_call size timer s h) (f : not t ≡ false) where
    call-holds : valid_call size timer s h ≡ true
    call-holds = sym e ∙ not-false t f

    pub call-state : valid_state s ≡ true
    unfolding valid_call
    call-state = and_right (leb size 4294967295 && leb timer 1 && eqb (length h) 3402) (valid_state s) call-holds

    pub call-room : length h ≡ 3402
    unfolding valid_call
    call-room =
        eqb-true (length h) 3402
        (and_right (leb size 4294967295 && leb timer 1) (eqb (length h) 3402)
        (and_left (leb size 4294967295 && leb timer 1 && eqb (length h) 3402) (valid_state s) call-holds))

-- ---- `settle`
module _ (size timer : ℕ) (s h : List ℕ) (t : Bool) (e : t ≡ due_header size timer s) where
  pub settled-not : not t ≡ true → Left (settled size timer s h) (Ok 0) s h
  unfolding settled
  settled-not f = rw (sym e ∙ not-true t f, settled) (record { answer = refl; state = refl; header = refl })

  pub settled-made : (s' h' : List ℕ) → not t ≡ false → h' ≡ header_made s → s' ≡ emptied s → Left (settled size timer s h) (Ok 1) s' h'
  unfolding settled
  settled-made s' h' f a b = rw (sym e ∙ not-false t f, settled) (record { answer = refl; state = b; header = a })

-- ---- `on_parents`
module _ (p : ℕ) (ps : List ℕ) (size timer : ℕ) (s h : List ℕ) where
  parents-no : valid_parents p ps ≡ false → Left (parents_after p ps size timer s h) (Err BadShape) s h
  unfolding parents_after
  parents-no e = rw (e, parents_after) (record { answer = refl; state = refl; header = refl })

  pub parents-late : 4294967294 < p → Left (parents_after p ps size timer s h) (Err BadShape) s h
  unfolding valid_parents
  parents-late a = parents-no (rw (lt-leb _ _ a))

  pub parents-ragged : p ≤ 4294967294 → (length ps % 32 ≡ 0 → ⊥) → Left (parents_after p ps size timer s h) (Err BadShape) s h
  unfolding valid_parents
  parents-ragged a b = parents-no (rw (le-leb _ _ a, ne_eqb _ _ b))

  pub parents-many : p ≤ 4294967294 → length ps % 32 ≡ 0 → 32 < length ps / 32 → Left (parents_after p ps size timer s h) (Err BadShape) s h
  unfolding valid_parents
  parents-many a b c = parents-no (rw (le-leb _ _ a, eq-eqb _ _ b, lt-leb _ _ c))

  module _ (a : p ≤ 4294967294) (b : length ps % 32 ≡ 0) (c : length ps / 32 ≤ 32) where
    parents-yes : parents_after p ps size timer s h ≡ settled size timer (received p ps s) h
    unfolding parents_after valid_parents
    parents-yes = rw (le-leb _ _ a, eq-eqb _ _ b, le-leb _ _ c, parents_after)

    module _ (n : ℕ) (e : n ≡ round_in s) (r : Answer) (s' h' : List ℕ) where
      pub parents-dropped : p < n → Left (settled size timer s h) r s' h' → Left (parents_after p ps size timer s h) r s' h'
      unfolding received
      parents-dropped l x =
          let k : p < round_in s = omega arith in
          rw (parents-yes, lt-ltb _ _ k, received) x

      pub parents-taken : (u : List ℕ) → n ≤ p → u ≡ advanced s p (digests_of ps) → Left (settled size timer u h) r s' h' → Left (parents_after p ps size timer s h) r s' h'
      unfolding received
      parents-taken u l f x =
          let k : round_in s ≤ p = omega arith in
          rw (parents-yes, le-ltb _ _ k, received, ← f) x

    pub parents-state : (u : List ℕ) → valid_state s ≡ true → u ≡ advanced s p (digests_of ps) → valid_state u ≡ true
    parents-state u v f =
        rw f
        (state-advanced s p (digests_of ps) (state-size s v) (digests-sized ps) (omega (arith, length-digests ps)) a (is_state s v).waiting)

-- ---- `on_digest`
module _ (digest : List ℕ) (worker size timer : ℕ) (s h : List ℕ) where
  digest-no : valid_digest digest worker ≡ false → Left (digest_after digest worker size timer s h) (Err BadShape) s h
  unfolding digest_after
  digest-no e = rw (e, digest_after) (record { answer = refl; state = refl; header = refl })

  pub digest-short : (length digest ≡ 32 → ⊥) → Left (digest_after digest worker size timer s h) (Err BadShape) s h
  unfolding valid_digest
  digest-short a = digest-no (rw (ne_eqb _ _ a))

  pub digest-worker : (d : List ℕ) → IsWholeChunk digest d 32 → 4294967295 < worker → Left (digest_after digest worker size timer s h) (Err BadShape) s h
  unfolding valid_digest
  digest-worker d i b = digest-no (rw (eq-eqb _ _ i.long, lt-leb _ _ b))

  module _ (d : List ℕ) (i : IsWholeChunk digest d 32) (b : worker ≤ 4294967295) (n : ℕ) (e : n ≡ waiting_count s) where
    digest-yes : valid_digest digest worker ≡ true
    unfolding valid_digest
    digest-yes = rw (eq-eqb _ _ i.long, le-leb _ _ b)

    pub digest-full : 64 ≤ n → Left (digest_after digest worker size timer s h) (Err NoRoom) s h
    unfolding digest_after
    digest-full l =
        let k : 64 ≤ waiting_count s = omega arith in
        rw (digest-yes, digest_after, le-ltb _ _ k, digest_after) (record { answer = refl; state = refl; header = refl })

    module _ (l : n < 64) where
      room : waiting_count s < 64
      room = omega arith

      module _ (u : List ℕ) (f : u ≡ added s d worker) where
        pub digest-taken : (r : Answer) (s' h' : List ℕ) → Left (settled size timer u h) r s' h' → Left (digest_after digest worker size timer s h) r s' h'
        unfolding digest_after
        digest-taken r s' h' x = rw (digest-yes, digest_after, lt-ltb _ _ room, digest_after, ← i.same, ← f) x

        pub digest-state : valid_state s ≡ true → valid_state u ≡ true
        digest-state v = rw f (state-added s d worker (state-size s v) (rw i.same i.long) room v)

-- ---- `proposer_event`: the tests one after the other
module _ (tag p : ℕ) (ps digest : List ℕ) (worker size timer : ℕ) (s h : List ℕ) where
  pub event-no : valid_call size timer s h ≡ false → Left (event_after tag p ps digest worker size timer s h) (Err BadShape) s h
  unfolding event_after
  event-no e = rw (e, event_after) (record { answer = refl; state = refl; header = refl })

  pub event-pace : (valid_pace size timer ≡ true → false ≡ true) → Left (event_after tag p ps digest worker size timer s h) (Err BadShape) s h
  unfolding valid_call valid_pace
  event-pace a = event-no (rw (from-no (valid_pace size timer) a))

  module _ (a : valid_pace size timer ≡ true) where
    pub event-header : (length h ≡ 3402 → ⊥) → Left (event_after tag p ps digest worker size timer s h) (Err BadShape) s h
    unfolding valid_call valid_pace
    event-header b = event-no (rw (a, ne_eqb _ _ b))

    module _ (h₁ : List ℕ) (b : IsWholeChunk h h₁ 3402) where
      pub event-state : (length s ≡ 3366 → ⊥) → Left (event_after tag p ps digest worker size timer s h) (Err BadShape) s h₁
      unfolding valid_call valid_pace valid_state
      event-state c = rw b.same (event-no (rw (a, eq-eqb _ _ b.long, ne_eqb _ _ c)))

      module _ (s₁ : List ℕ) (c : IsWholeChunk s s₁ 3366) (t : Bool) (e : t ≡ valid_state s₁) where
        call-is : t ≡ valid_call size timer s h
        unfolding valid_call valid_pace
        call-is = e ∙ rw (c.same, a, eq-eqb _ _ b.long)

        pub event-invalid : not t ≡ true → Left (event_after tag p ps digest worker size timer s h) (Err BadShape) s₁ h₁
        event-invalid f = rw (c.same, b.same) (event-no (sym call-is ∙ not-true t f))

        module _ (f : not t ≡ false) where
          event-yes : event_after tag p ps digest worker size timer s h ≡ by_tag tag p ps digest worker size timer s h
          unfolding event_after
          event-yes = rw (sym call-is ∙ not-false t f, event_after)

          module _ (size₁ timer₁ : ℕ) (q : (size₁ ≡ size) × (timer₁ ≡ timer)) (r : Answer) (s' h' : List ℕ) where
            pub event-parents : tag ≡ 1 → Left (parents_after p ps size₁ timer₁ s₁ h₁) r s' h' → Left (event_after tag p ps digest worker size timer s h) r s' h'
            unfolding by_tag
            event-parents g x = rw (event-yes, eq-eqb _ _ g, by_tag, ← q.0, ← q.1, ← c.same, ← b.same) x

            pub event-digest : tag ≡ 2 → Left (digest_after digest worker size₁ timer₁ s₁ h₁) r s' h' → Left (event_after tag p ps digest worker size timer s h) r s' h'
            unfolding by_tag
            event-digest g x = rw (event-yes, ne_eqb tag 1 (λ z. omega arith), eq-eqb _ _ g, by_tag, ← q.0, ← q.1, ← c.same, ← b.same) x

            pub event-timer : tag ≡ 3 → Left (settled size₁ timer₁ s₁ h₁) r s' h' → Left (event_after tag p ps digest worker size timer s h) r s' h'
            unfolding by_tag
            event-timer g x = rw (event-yes, ne_eqb tag 1 (λ z. omega arith), ne_eqb tag 2 (λ z. omega arith), eq-eqb _ _ g, by_tag, ← q.0, ← q.1, ← c.same, ← b.same) x

          pub event-other : (tag ≡ 1 → ⊥) → (tag ≡ 2 → ⊥) → (tag ≡ 3 → ⊥) → Left (event_after tag p ps digest worker size timer s h) (Err BadShape) s₁ h₁
          unfolding by_tag
          event-other x y z = rw (event-yes, ne_eqb _ _ x, ne_eqb _ _ y, ne_eqb _ _ z, by_tag) (record { answer = refl; state = c.same; header = b.same })
