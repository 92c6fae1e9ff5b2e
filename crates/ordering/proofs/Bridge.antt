-- The bytes that a start leaves are the fresh state of the ordering's definitions. Assumes nothing.
use mathlib.Core.Path.{◌≡◌, refl, sym, ap, ◌∙◌}
use mathlib.Core.Bool.{Bool, true, false}
use mathlib.Core.List.{List, [], ◌∷◌, ◌++◌, map}
use Prim.Native.Nat.{ℕ, zero, suc, ◌+◌, ◌-◌, ◌*◌, ◌/◌, ◌%◌, ◌≤◌, ◌<◌}
use native.Mathlib.Omega.{arith}
use lib.Dec.{ltb}
use lib.ListN.{length, take, drop}
use lib.Seq.{take_at, drop_at}
use borrow.Author.Tests.{lt-ltb, le-leb}
use Rattle.wire.specs.Bytes.{word}
use Rattle.wire.specs.Items.{chunks, items, all_of}
use Rattle.wire.proofs.Lists.{Sized, none, one, length-items}
use Rattle.table.specs.Rows.{count_of, places, shaped, rows_of, round_of}
use Rattle.table.proofs.Laws.{Holds, holds-packed, length-packed, shaped-last}
use Rattle.room.specs.Numbers.{values_of, rounds_of}
use Rattle.config.specs.Members.{members_of}
use Rattle.config.specs.Committee.{valid_setup}
use Rattle.config.proofs.Laws.{length-members, valid-setup}
use Rattle.consensus.specs.Table.{Cert, State, genesis, fresh}
use Rattle.held.specs.Rows.{origin_in, parent_count, parents_in, cert_of, held_of, lasts_of, state_of, lawful_row, held_shape, row_of}
use Rattle.held.proofs.Putting.{Fitting, row-cert}
use Rattle.ordering.specs.Start.{valid_start, start_answer, digests_of, genesis_rows, fresh_table, fresh_state, Started, Fresh}
use Rattle.refusal.specs.Answers.{Answer}
use Rattle.std.specs.Prelude.{Ok, Err}
use Rattle.refusal.specs.declared.Refusal.TheVariants.{BadCommittee, BadShape}
use Rattle.ordering.proofs.Replies.{when-done}
use Rattle.ordering.proofs.Zeros.{zeros, length-zeros, zeros-add}
use Rattle.ordering.proofs.Beginning.{length-rows, rows-sized, length-digests, digests-are-sized, valid-start, fits}

-- ---- last committed rounds: zeros are rounds 0
rounds-zero : (n : ℕ) → map word (chunks 4 (zeros (n * 4)) n) ≡ zeros n
unfolding chunks word
rounds-zero zero = refl
rounds-zero (suc n) =
    let e : zeros (suc n * 4) ≡ zeros 4 ++ zeros (n * 4) = zeros-add 4 (n * 4) (suc n * 4) (omega arith) in
    let t : take 4 (zeros (suc n * 4)) ≡ zeros 4 = ap (take 4) e ∙ take_at (zeros 4) (zeros (n * 4)) 4 refl in
    let d : drop 4 (zeros (suc n * 4)) ≡ zeros (n * 4) = ap (drop 4) e ∙ drop_at (zeros 4) (zeros (n * 4)) 4 refl in
    rw (t, d) (ap (λ (v : List ℕ). 0 ∷ v) (rounds-zero n))

pub lasts-fresh : (n : ℕ) → lasts_of (fresh_state n) ≡ zeros n
unfolding lasts_of rounds_of values_of items fresh_state
lasts-fresh n =
    let l = length-zeros (n * 4) in
    let e : length (zeros (n * 4)) / 4 ≡ n = omega arith in
    rw e (rounds-zero n)

-- ---- a genesis certificate's row
abbrev first : ℕ → List ℕ → Cert
first o d = record { origin = o; round = 0; digest = d; parents = [] }

module _ (o : ℕ) (d : List ℕ) (ld : length d ≡ 32) where
  fitting : Fitting (first o d)
  fitting = record { digest = ld; parents = none; few = omega arith }

  row_is : cert_of (row_of (first o d)) ≡ first o d
  row_is = row-cert (first o d) fitting (omega arith)

  row_lawful : (n : ℕ) → o < n → lawful_row n (row_of (first o d)) ≡ true
  unfolding lawful_row cert_of parents_in
  row_lawful n h =
      let a : origin_in (row_of (first o d)) ≡ o = ap (λ (c : Cert). c.origin) row_is in
      let b : round_of (row_of (first o d)) ≡ 0 = ap (λ (c : Cert). c.round) row_is in
      let c : parent_count (row_of (first o d)) ≡ 0 =
      sym (length-items 32 (row_of (first o d)) 38 (parent_count (row_of (first o d)))) ∙ ap (λ (c : Cert). length c.parents) row_is in
      rw (a, b, c, lt-ltb o n h)

-- ---- all of them
certs-back : (o : ℕ) (ds : List (List ℕ)) → Sized 32 ds → map cert_of (map row_of (genesis o ds)) ≡ genesis o ds
unfolding genesis
certs-back o [] none = refl
certs-back o (d ∷ ds) (one e s) = rw (row_is o d e, certs-back (suc o) ds s)

rows-lawful : (n o : ℕ) (ds : List (List ℕ)) → Sized 32 ds → o + length ds ≤ n → all_of (lawful_row n) (map row_of (genesis o ds)) ≡ true
unfolding genesis all_of
rows-lawful n o [] none h = refl
rows-lawful n o (d ∷ ds) (one e s) h = rw (row_lawful o d e n (omega arith), all_of) (rows-lawful n (suc o) ds s (omega arith))

-- ---- the table
module _ (size : ℕ) (ds : List (List ℕ)) (s : Sized 32 ds) (few : length ds ≤ 32) (room : 8 + length ds * 1062 ≤ size) where
  rows : List (List ℕ)
  rows = genesis_rows ds

  sized : Sized 1062 (genesis_rows ds)
  unfolding genesis_rows
  sized = rows-sized 0 ds s

  many : length (genesis_rows ds) ≡ length ds
  unfolding genesis_rows
  many = length-rows 0 ds

  holds : Holds 1062 (fresh_table size ds) (genesis_rows ds) (zeros (size - (8 + length ds * 1062)))
  unfolding fresh_table
  holds = let m = many in holds-packed 1062 (genesis_rows ds) (zeros (size - (8 + length ds * 1062))) (omega arith) sized

  pub length-fresh : length (fresh_table size ds) ≡ size
  unfolding fresh_table
  length-fresh =
      let m = many in
      let z = length-zeros (size - (8 + length ds * 1062)) in
      length-packed 1062 (genesis_rows ds) (zeros (size - (8 + length ds * 1062))) sized ∙ omega arith

  pub held-fresh : held_of (fresh_table size ds) ≡ genesis 0 ds
  unfolding held_of genesis_rows
  held-fresh = ap (map cert_of) holds.rows ∙ certs-back 0 ds s

  pub shape-fresh : (n : ℕ) → length ds ≡ n → (size - 8) % 1062 ≡ 0 → n < (size - 8) / 1062 → held_shape n (fresh_table size ds) ≡ true
  unfolding held_shape genesis_rows places
  shape-fresh n e w h =
      let t : List ℕ = fresh_table size ds in
      let l : length t ≡ size = length-fresh in
      let c : count_of t ≡ n = holds.count ∙ many ∙ e in
      let k : count_of t ≤ (length t - 8) / 1062 = rw (c, l) (omega arith) in
      let a : shaped 1062 t ≡ true = shaped-last 1062 t (omega arith) (λ z. omega arith) (rw l w) (λ z. omega (arith, rw l at z)) ∙ le-leb (count_of t) ((length t - 8) / 1062) k in
      let b : ltb n ((length t - 8) / 1062) ≡ true = rw l (lt-ltb n ((size - 8) / 1062) h) in
      let f : all_of (lawful_row n) (rows_of 1062 t) ≡ true = ap (all_of (lawful_row n)) holds.rows ∙ rows-lawful n 0 ds s (omega arith) in
      rw (a, b, f)

-- ---- the start
record Answered (setup g s t : List ℕ) : Type 0 where
  setup-in : valid_setup setup ≡ true
  rest_in : valid_start (drop 8 setup) g s t ≡ true

other : (a : Answer) (k : ℕ) → a ≡ Err BadCommittee → a ≡ Ok k → ⊥
other a k e f = let z : ◌≡◌ {A = ℕ} 0 1 = cc in omega arith

other-2 : (a : Answer) (k : ℕ) → a ≡ Err BadShape → a ≡ Ok k → ⊥
other-2 a k e f = let z : ◌≡◌ {A = ℕ} 0 1 = cc in omega arith

answered : (setup g s t : List ℕ) (k : ℕ) → start_answer setup g s t ≡ Ok k → Answered setup g s t
unfolding start_answer
answered setup g s t k e = go (valid_setup setup) refl (valid_start (drop 8 setup) g s t) refl
  where
    go : (a : Bool) → valid_setup setup ≡ a → (b : Bool) → valid_start (drop 8 setup) g s t ≡ b → Answered setup g s t
    go true p true q = record { setup-in = p; rest_in = q }
    go true p false q = absurd (other-2 (start_answer setup g s t) k (rw (p, start_answer, q, start_answer)) e)
    go false p b q = absurd (other (start_answer setup g s t) k (rw (p, start_answer)) e)

same-state : (a b : State) → a.last ≡ b.last → a.held ≡ b.held → a ≡ b
same-state a b p q =
    let k : ◌≡◌ {A = State} (record { last = a.last; held = a.held }) (record { last = b.last; held = b.held }) = rw (p, q) in
    k

module _ (setup g s t : List ℕ) (r : Answer) (s' t' : List ℕ) (k : ℕ) (x : Started setup g s t r s' t') (e : r ≡ Ok k) where
  done : start_answer setup g s t ≡ Ok k
  done = sym x.answer ∙ e

  pub start-fresh : Fresh setup g t s' t'
  unfolding state_of fresh fresh_state places
  start-fresh =
      let y = answered setup g s t k done in
      let ms : List ℕ = drop 8 setup in
      let n : ℕ = length (members_of ms) in
      let v = valid-start ms g s t y.rest_in in
      let f = fits ms g s t (valid-setup setup y.setup-in).members v in
      let lm : n ≡ length ms / 69 = length-members ms in
      let ds : List (List ℕ) = digests_of g in
      let ld : length ds ≡ n = length-digests g ∙ f.records ∙ sym lm in
      let few : length ds ≤ 32 = omega (arith, f.few) in
      let room : 8 + length ds * 1062 ≤ length t = rw (ld ∙ lm) f.room in
      let more : n < (length t - 8) / 1062 = rw lm v.more in
      let es : s' ≡ fresh_state n = x.state ∙ when-done (start_answer setup g s t) (fresh_state n) s k done in
      let et : t' ≡ fresh_table (length t) ds = x.table ∙ when-done (start_answer setup g s t) (fresh_table (length t) ds) t k done in
      record {
        state =
            same-state (state_of s' t') (fresh ds) (ap lasts_of es ∙ lasts-fresh n ∙ ap zeros (sym ld))
            (ap held_of et ∙ held-fresh (length t) ds (digests-are-sized g) few room);
        shape = rw et (shape-fresh (length t) ds (digests-are-sized g) few room n ld v.whole more);
        size = ap length et ∙ length-fresh (length t) ds (digests-are-sized g) few room;
        lasts = ap length es ∙ length-zeros (n * 4);
      }
