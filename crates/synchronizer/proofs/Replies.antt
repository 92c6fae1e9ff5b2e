-- The laws of `specs/Answers.antt`. Assumes nothing.
use mathlib.Core.Path.{◌≡◌, refl, sym, ap, ◌∙◌}
use mathlib.Core.Bool.{Bool, true, false, not, ◌&&◌}
use mathlib.Core.List.{List}
use Prim.Native.Nat.{ℕ, ◌%◌, ◌≤◌, ◌<◌}
use native.Mathlib.Omega.{arith}
use lib.Dec.{ltb}
use lib.ListN.{length}
use borrow.Author.Tests.{eq-eqb, ne_eqb, not-true, not-false, ltb-true}
use Rattle.wire.specs.Bytes.{part, word, alike}
use Rattle.wire.specs.Items.{first_of, has_part}
use Rattle.std.specs.Prelude.{Option, Some, None}
use Rattle.wire.proofs.Lists.{keeps_fewer, length-items}
use Rattle.table.specs.Rows.{count_of, places, shaped, rows_of, appended}
use Rattle.config.specs.Committee.{valid_members}
use Rattle.genesis.specs.Genesis.{record_round, record_digest, records_of, valid_genesis}
use Rattle.messages.specs.Header.{parent_count, payload_count, header_shape, parents_of, payload_of, author_of}
use Rattle.messages.proofs.Laws.{header-parents, header-payload}
use Rattle.synchronizer.specs.Picked.{Picked}
use Rattle.synchronizer.specs.Parents.{lacks, missing_parents, delivered}
use Rattle.synchronizer.specs.Payload.{pairs_of, unpaired, missing_payload}
use Rattle.synchronizer.specs.Known.{learning}
use Rattle.synchronizer.specs.Answers.{shaped_as, out_as, lookable, unlookable, Looked, Unlooked, missing_of, parents_answer, ParentsAnswer, deliver_answer, payload_shape, payload_answer, PayloadAnswer, learnable, learn_answer, learnt_table, LearnAnswer}
use Rattle.refusal.specs.Answers.{Answer}
use Rattle.std.specs.Int.{from_bool}
use Rattle.std.specs.Prelude.{Result, Ok, Err}
use Rattle.refusal.specs.declared.Refusal.{Refusal}
use Rattle.refusal.specs.declared.Refusal.TheVariants.{BadCommittee, BadShape}

-- ---- whether parents can be looked up, test by test
module _ (ms g k h : List ℕ) (b : Bool) (e : b ≡ valid_genesis ms g) where
  pub no-genesis : not b ≡ true → lookable ms g k h ≡ false
  unfolding lookable
  no-genesis q = rw (sym e ∙ not-true b q)

  module _ (yes : not b ≡ false) (b' : Bool) (e' : b' ≡ shaped 68 k) where
    pub no_table : not b' ≡ true → lookable ms g k h ≡ false
    unfolding lookable
    no_table q = rw (sym e ∙ not-false b yes, sym e' ∙ not-true b' q)

    module _ (yes' : not b' ≡ false) (b'' : Bool) (e'' : b'' ≡ header_shape h) where
      pub no_header : not b'' ≡ true → lookable ms g k h ≡ false
      unfolding lookable
      no_header q = rw (sym e ∙ not-false b yes, sym e' ∙ not-false b' yes', sym e'' ∙ not-true b'' q)

      pub can-look : not b'' ≡ false → lookable ms g k h ≡ true
      unfolding lookable
      can-look q = rw (sym e ∙ not-false b yes, sym e' ∙ not-false b' yes', sym e'' ∙ not-false b'' q)

-- ---- what parents are looked up with, test by test
module _ (ms g k h : List ℕ) (b : Bool) (e : b ≡ valid_members ms) where
  pub look-committee : not b ≡ true → Unlooked ms g k h BadCommittee
  unfolding unlookable
  look-committee q =
      let v : valid_members ms ≡ false = sym e ∙ not-true b q in
      record { no = rw v; refusal = sym (rw (v, unlookable)) }

  module _ (yes : not b ≡ false) where
    valid : valid_members ms ≡ true
    valid = sym e ∙ not-false b yes

    unlooked : lookable ms g k h ≡ false → Unlooked ms g k h BadShape
    unfolding unlookable
    unlooked q = record { no = rw (valid, q); refusal = sym (rw (valid, unlookable)) }

    module _ (b' : Bool) (e' : b' ≡ valid_genesis ms g) where
      pub look-genesis : not b' ≡ true → Unlooked ms g k h BadShape
      unfolding lookable
      look-genesis q = unlooked (rw (sym e' ∙ not-true b' q))

      module _ (yes' : not b' ≡ false) where
        pub look-table : shaped 68 k ≡ false → Unlooked ms g k h BadShape
        unfolding lookable
        look-table q = unlooked (rw (sym e' ∙ not-false b' yes', q))

        module _ (t : List ℕ) (s : shaped 68 t ≡ true) (et : t ≡ k) where
          pub look-header : header_shape h ≡ false → Unlooked ms g k h BadShape
          unfolding lookable
          look-header q = unlooked (rw (sym e' ∙ not-false b' yes', ← et, s, q))

          pub look-done : (u : List ℕ) → header_shape u ≡ true → u ≡ h → Looked ms g k h t u
          unfolding lookable
          look-done u q eu =
              record { committee = valid; look = rw (sym e' ∙ not-false b' yes', ← et, s, ← eu, q); table = et; header = eu }

pub first-no : (a x : Bool) → a ≡ false → a && x ≡ false
first-no a x e = rw e

-- ---- parents
module _ (ms g k h out : List ℕ) where
  pub parents_refused : (e : Refusal) → Unlooked ms g k h e → ParentsAnswer ms g k h out (Err e) out
  unfolding parents_answer out_as shaped_as unlookable
  parents_refused e u = rw u.refusal (go (valid_members ms) refl) where
    go : (x : Bool) → valid_members ms ≡ x → ParentsAnswer ms g k h out (Err (unlookable ms)) out
    go true v =
        let q : lookable ms g k h ≡ false = rw v at u.no in
        record { answer = sym (rw (v, q, parents_answer, unlookable)); buffer = sym (rw (v, q, out_as)) }
    go false v = record { answer = sym (rw (v, parents_answer, unlookable)); buffer = sym (rw (v, out_as)) }

  module _ (t b : List ℕ) (l : Looked ms g k h t b) where
    pub parents-out : (length out ≡ 1024 → ⊥) → ParentsAnswer ms g k h out (Err BadShape) out
    unfolding parents_answer out_as shaped_as
    parents-out n =
        record {
          answer = sym (rw (l.committee, l.look, ne_eqb _ _ n, parents_answer));
          buffer = sym (rw (l.committee, l.look, ne_eqb _ _ n, out_as));
        }

    pub parents-done : (m : ℕ) (out' : List ℕ) → length out ≡ 1024 → Picked (missing_parents (records_of g) (rows_of 68 t) (parents_of b)) out m out' → ParentsAnswer ms g k h out (Ok m) out'
    unfolding parents_answer out_as shaped_as missing_of
    parents-done m out' n p =
        let p' = rw (l.table, l.header) at p in
        record {
          answer = ap Ok p'.count ∙ sym (rw (l.committee, l.look, eq-eqb _ _ n, parents_answer));
          buffer = p'.buffer ∙ sym (rw (l.committee, l.look, eq-eqb _ _ n, out_as));
        }

pub few-missing : (gs ks : List (List ℕ)) (h out : List ℕ) (m : ℕ) (out' : List ℕ) → header_shape h ≡ true → Picked (missing_parents gs ks (parents_of h)) out m out' → m ≤ 32
unfolding missing_parents parents_of
few-missing gs ks h out m out' s p =
    omega (arith, p.count, keeps_fewer (lacks gs ks) (parents_of h), length-items 32 h 74 (parent_count h), header-parents h s)

-- ---- delivery
module _ (ms g k h : List ℕ) where
  pub deliver_refused : (e : Refusal) → Unlooked ms g k h e → Err e ≡ deliver_answer ms g k h
  unfolding deliver_answer shaped_as unlookable
  deliver_refused e u = rw u.refusal (go (valid_members ms) refl) where
    go : (x : Bool) → valid_members ms ≡ x → ◌≡◌ {A = Answer} (Err (unlookable ms)) (deliver_answer ms g k h)
    go true v = let q : lookable ms g k h ≡ false = rw v at u.no in sym (rw (v, q, deliver_answer, unlookable))
    go false v = sym (rw (v, deliver_answer, unlookable))

  pub is-delivered : (t b : List ℕ) → Looked ms g k h t b → (d : Bool) → d ≡ delivered (records_of g) (rows_of 68 t) (parents_of b) → (n : ℕ) → n ≡ from_bool d → Ok n ≡ deliver_answer ms g k h
  unfolding deliver_answer shaped_as
  is-delivered t b l d ed n q = rw q (go d refl) where
    ed' : d ≡ delivered (records_of g) (rows_of 68 k) (parents_of h)
    ed' = rw (l.table, l.header) at ed

    go : (x : Bool) → d ≡ x → ◌≡◌ {A = Answer} (Ok (from_bool x)) (deliver_answer ms g k h)
    go true r = sym (rw (l.committee, l.look, sym ed' ∙ r, deliver_answer))
    go false r = sym (rw (l.committee, l.look, sym ed' ∙ r, deliver_answer))

-- ---- payload
module _ (own pairs h out : List ℕ) where
  refuses : payload_shape own pairs h out ≡ false → PayloadAnswer own pairs h out (Err BadShape) out
  unfolding payload_answer out_as shaped_as
  refuses q = record { answer = sym (rw (q, payload_answer)); buffer = sym (rw (q, out_as)) }

  pub payload-own : (length own ≡ 32 → ⊥) → PayloadAnswer own pairs h out (Err BadShape) out
  unfolding payload_shape
  payload-own l = refuses (rw (ne_eqb _ _ l))

  module _ (lo : length own ≡ 32) where
    pub payload-pairs : (length pairs % 36 ≡ 0 → ⊥) → PayloadAnswer own pairs h out (Err BadShape) out
    unfolding payload_shape
    payload-pairs l = refuses (rw (eq-eqb _ _ lo, ne_eqb _ _ l))

    module _ (lp : length pairs % 36 ≡ 0) where
      pub payload-header : header_shape h ≡ false → PayloadAnswer own pairs h out (Err BadShape) out
      unfolding payload_shape
      payload-header q = refuses (rw (eq-eqb _ _ lo, eq-eqb _ _ lp, q))

      module _ (yes : header_shape h ≡ true) where
        pub payload-out : (length out ≡ 2304 → ⊥) → PayloadAnswer own pairs h out (Err BadShape) out
        unfolding payload_shape
        payload-out l = refuses (rw (eq-eqb _ _ lo, eq-eqb _ _ lp, yes, ne_eqb _ _ l))

        pub payload-done : (m : ℕ) (out' : List ℕ) → length out ≡ 2304 → Picked (missing_payload own (pairs_of pairs) h) out m out' → PayloadAnswer own pairs h out (Ok m) out'
        unfolding payload_shape payload_answer out_as shaped_as
        payload-done m out' l p =
            record {
              answer = ap Ok p.count ∙ sym (rw (eq-eqb _ _ lo, eq-eqb _ _ lp, yes, eq-eqb _ _ l, payload_answer));
              buffer = p.buffer ∙ sym (rw (eq-eqb _ _ lo, eq-eqb _ _ lp, yes, eq-eqb _ _ l, out_as));
            }

fewer-payload : (own h : List ℕ) (ps : List (List ℕ)) → header_shape h ≡ true → length (missing_payload own ps h) ≤ 64
unfolding missing_payload payload_of
fewer-payload own h ps s = go (alike (author_of h) own) refl where
  go : (b : Bool) → alike (author_of h) own ≡ b → length (missing_payload own ps h) ≤ 64
  go true e = rw (e, missing_payload) (omega arith)
  go false e =
      rw (e, missing_payload)
      (omega (arith, keeps_fewer (unpaired ps) (payload_of h), length-items 36 h 1098 (payload_count h), header-payload h s))

pub few-batches : (own pairs h out : List ℕ) (m : ℕ) (out' : List ℕ) → header_shape h ≡ true → Picked (missing_payload own (pairs_of pairs) h) out m out' → m ≤ 64
few-batches own pairs h out m out' s p = omega (arith, p.count, fewer-payload own h (pairs_of pairs) s)

-- ---- the known table
module _ (k new : List ℕ) where
  unlearnt : learnable k new ≡ false → LearnAnswer k new (Err BadShape) k
  unfolding learn_answer learnt_table shaped_as
  unlearnt q = record { answer = sym (rw (q, learn_answer)); table = sym (rw (q, learnt_table)) }

  pub learn-table : shaped 68 k ≡ false → LearnAnswer k new (Err BadShape) k
  unfolding learnable
  learn-table q = unlearnt (rw q)

  module _ (yes : shaped 68 k ≡ true) where
    pub learn-long : (length new ≡ 68 → ⊥) → LearnAnswer k new (Err BadShape) k
    unfolding learnable
    learn-long l = unlearnt (rw (yes, ne_eqb _ _ l))

    module _ (l : length new ≡ 68) (r : ℕ) (er : r ≡ word (part new 0 4)) where
      pub learn-round : r ≡ 0 → LearnAnswer k new (Err BadShape) k
      unfolding learnable record_round
      learn-round z = unlearnt (rw (yes, eq-eqb _ _ l, eq-eqb (word (part new 0 4)) 0 (sym er ∙ z)))

      module _ (z : r ≡ 0 → ⊥) (x : Result Bool Refusal) (ex : x ≡ learning k new) where
        can : learnable k new ≡ true
        unfolding learnable record_round
        can = rw (yes, eq-eqb _ _ l, ne_eqb (word (part new 0 4)) 0 (λ q. z (er ∙ q)))

        pub learn-known : x ≡ Ok true → LearnAnswer k new (Ok 0) k
        unfolding learn_answer learnt_table shaped_as
        learn-known q =
            record { answer = sym (rw (can, sym ex ∙ q, learn_answer)); table = sym (rw (can, learnt_table, sym ex ∙ q, learnt_table)) }

        pub learn_refused : (r : Refusal) → x ≡ Err r → LearnAnswer k new (Err r) k
        unfolding learn_answer learnt_table shaped_as
        learn_refused r q =
            record { answer = sym (rw (can, sym ex ∙ q, learn_answer)); table = sym (rw (can, learnt_table, sym ex ∙ q, learnt_table)) }

        pub learn-new : (k' : List ℕ) → x ≡ Ok false → k' ≡ appended 68 k new → LearnAnswer k new (Ok 1) k'
        unfolding learn_answer learnt_table shaped_as
        learn-new k' q p =
            record { answer = sym (rw (can, sym ex ∙ q, learn_answer)); table = p ∙ sym (rw (can, learnt_table, sym ex ∙ q, learnt_table)) }

-- a new record finds a place
pub new-fits : (k new : List ℕ) (x : Result Bool Refusal) → x ≡ learning k new → x ≡ Ok false → count_of k < places 68 k
unfolding learning
new-fits k new x e q = go (first_of (has_part 36 (record_digest new)) (rows_of 68 k) 0) refl (ltb (count_of k) (places 68 k)) refl (sym e ∙ q) where
  go : (f : Option ℕ) → first_of (has_part 36 (record_digest new)) (rows_of 68 k) 0 ≡ f → (b : Bool) → ltb (count_of k) (places 68 k) ≡ b → learning k new ≡ Ok false → count_of k < places 68 k
  go (Some i) p b r h = let z : ◌≡◌ {A = ℕ} 0 1 = cc (rw (p, learning) at h) in absurd (omega arith)
  go None p true r h = ltb-true _ _ r
  go None p false r h = let z : ◌≡◌ {A = ℕ} 0 1 = cc (rw (r, learning) at (rw (p, learning) at h)) in absurd (omega arith)
