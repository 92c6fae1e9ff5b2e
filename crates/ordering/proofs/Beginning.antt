-- The laws of `specs/Start.antt`. Assumes nothing.
use mathlib.Core.Path.{◌≡◌, refl, sym, ap, ◌∙◌}
use mathlib.Core.Bool.{Bool, true, false, not}
use mathlib.Core.List.{List, [], ◌∷◌, ◌++◌, append_assoc, map}
use Prim.Native.Nat.{ℕ, zero, suc, ◌+◌, ◌-◌, ◌*◌, ◌/◌, ◌%◌, ◌≤◌, ◌<◌, ◌^◌}
use native.Mathlib.Numerals.{add-one}
use native.Mathlib.Omega.{arith}
use lib.Dec.{ltb}
use lib.ListN.{length, get_or, take, drop, replicate, length-append, length-map, take-append-drop}
use lib.Seq.{take-suc, take_all, length-take-le}
use borrow.Author.Tests.{eq-eqb, ne_eqb, eqb-true, le-leb, lt-leb, leb-true, ltb-true, not-true, not-false}
use Rattle.wire.specs.Bytes.{part, splice, bytes}
use Rattle.wire.specs.Items.{chunks, items, item_in, flat}
use Rattle.wire.proofs.Laws.{length-splice, part-splice-after, splice-own, length-bytes}
use Rattle.wire.proofs.Lists.{Sized, none, one, sized-take, length-items, items-sized, item-fits, item-is, item-length, length-flat, flat_append, flat-one, splice-seam, splice-next}
use Rattle.table.specs.Rows.{places, packed}
use Rattle.config.specs.Members.{members_of}
use Rattle.config.specs.Committee.{valid_members, valid_setup}
use Rattle.config.proofs.Laws.{both, length-members, valid, valid-setup}
use Rattle.genesis.specs.Genesis.{record_digest, records_of, valid_genesis}
use Rattle.genesis.proofs.Laws.{valid-genesis, digest-length}
use Rattle.consensus.specs.Table.{genesis}
use Rattle.held.specs.Rows.{row_of, head_of, cert_with}
use Rattle.held.proofs.Putting.{certs-fit, row-size}
use Rattle.ordering.specs.Start.{room_for, valid_start, start_answer, digests_of, genesis_rows, fresh_table, fresh_state, Started}
use Rattle.refusal.specs.Answers.{Answer, value_of}
use Rattle.refusal.specs.declared.Refusal.{Refusal}
use Rattle.std.specs.Prelude.{Ok, Err}
use Rattle.refusal.specs.declared.Refusal.TheVariants.{BadCommittee, BadShape}
use Rattle.ordering.proofs.Replies.{when-done, when_refused}
use Rattle.ordering.proofs.Zeros.{zeros, length-zeros, zeros-add, part-zeros, cleared}

-- ---- `has_room`: the tests one after the other
module _ (n : ℕ) (t : List ℕ) where
  pub room-short : length t < 8 → false ≡ room_for n t
  unfolding room_for
  room-short h = sym (rw (lt-leb _ _ h))

  module _ (h : 8 ≤ length t) where
    pub room-over : ((length t - 8) % 1062 ≡ 0 → ⊥) → false ≡ room_for n t
    unfolding room_for
    room-over e = sym (rw (le-leb _ _ h, ne_eqb _ _ e))

    pub room-last : (length t - 8) % 1062 ≡ 0 → ltb n ((length t - 8) / 1062) ≡ room_for n t
    unfolding room_for places
    room-last e = sym (rw (le-leb _ _ h, eq-eqb _ _ e))

-- ---- `is_start`
module _ (ms g s t : List ℕ) (v : Bool) (ev : v ≡ valid_genesis ms g) where
  pub start-genesis : not v ≡ true → false ≡ valid_start ms g s t
  unfolding valid_start
  start-genesis f = sym (rw (sym ev ∙ not-true v f))

  module _ (f : not v ≡ false) where
    pub start-state : (length s ≡ length ms / 69 * 4 → ⊥) → false ≡ valid_start ms g s t
    unfolding valid_start
    start-state h = sym (rw (sym ev ∙ not-false v f, length-members ms, ne_eqb _ _ h))

    pub start-last : (b : Bool) → length s ≡ length ms / 69 * 4 → b ≡ room_for (length ms / 69) t → b ≡ valid_start ms g s t
    unfolding valid_start
    start-last b h e = e ∙ sym (rw (sym ev ∙ not-false v f, length-members ms, eq-eqb _ _ h))

-- ---- `put_row`: two writes into zeros are the row
module _ (t : List ℕ) (i : ℕ) (d : List ℕ) (h : 8 + i * 1062 + 1062 ≤ length t) (z : part t (8 + i * 1062) 1062 ≡ replicate 1062 0) (ld : length d ≡ 32) where
  abbrev at : ℕ
  at = 8 + i * 1062

  abbrev A : List ℕ
  A = take at t

  abbrev C : List ℕ
  C = drop (at + 1062) t

  la : length A ≡ at
  la = length-take-le at t (omega arith)

  row-zeros : zeros 1062 ≡ zeros 4 ++ ((0 ∷ []) ++ ((0 ∷ []) ++ (zeros 32 ++ zeros 1024)))
  row-zeros = zeros-add 4 1058 1062 refl ∙ ap (λ (v : List ℕ). zeros 4 ++ (0 ∷ 0 ∷ v)) (zeros-add 32 1024 1056 refl)

  whole : t ≡ A ++ (zeros 1062 ++ C)
  unfolding splice
  whole = sym (splice-own t at 1062 h) ∙ ap (splice t at) z ∙ rw (length-zeros 1062)

  -- the row's bytes in front of the digest
  abbrev B : List ℕ
  B = i ∷ 0 ∷ []

  fitting : length (row_of (cert_with i 0 d [])) ≡ 1062
  fitting = row-size (cert_with i 0 d []) (certs-fit i 0 d [] ld refl (omega arith))

  filled : splice t at (row_of (cert_with i 0 d [])) ≡ A ++ (row_of (cert_with i 0 d []) ++ C)
  unfolding splice
  filled = rw fitting

  the_row : row_of (cert_with i 0 d []) ≡ zeros 4 ++ (B ++ (d ++ zeros 1024))
  unfolding row_of head_of cert_with items chunks flat bytes
  the_row = append_assoc (zeros 4) (B ++ d) (zeros 1024) ∙ ap (λ (v : List ℕ). zeros 4 ++ v) (append_assoc B d (zeros 1024))

  pub row_put : (a u : List ℕ) → a ≡ splice t (8 + i * 1062 + 4) (i ∷ []) → u ≡ splice a (8 + i * 1062 + 6) d → u ≡ splice t (8 + i * 1062) (row_of (cert_with i 0 d []))
  row_put a u ea eu =
      let R : List ℕ = (0 ∷ []) ++ (zeros 32 ++ (zeros 1024 ++ C)) in
      let F : List ℕ = A ++ zeros 4 in
      let l4 = length-zeros 4 in
      let lf : length F ≡ at + 4 = length-append A (zeros 4) ∙ omega (arith, la) in
      let lg : length (F ++ B) ≡ at + 6 = length-append F B ∙ omega arith in
      let t1 : t ≡ F ++ ((0 ∷ []) ++ R) = whole ∙ ap (λ (v : List ℕ). A ++ (v ++ C)) row-zeros ∙ simp append_assoc in
      let a1 : a ≡ F ++ ((i ∷ []) ++ R) = ea ∙ ap (λ (v : List ℕ). splice v (at + 4) (i ∷ [])) t1 ∙ splice-seam F (0 ∷ []) (i ∷ []) R (at + 4) lf refl in
      let a2 : a ≡ (F ++ B) ++ (zeros 32 ++ (zeros 1024 ++ C)) = a1 ∙ sym (append_assoc F B (zeros 32 ++ (zeros 1024 ++ C))) in
      let u1 : u ≡ (F ++ B) ++ (d ++ (zeros 1024 ++ C)) =
      eu ∙ ap (λ (v : List ℕ). splice v (at + 6) d) a2 ∙ splice-seam (F ++ B) (zeros 32) d (zeros 1024 ++ C) (at + 6) lg (ld ∙ sym (length-zeros 32)) in
      let r : A ++ (row_of (cert_with i 0 d []) ++ C) ≡ A ++ (zeros 4 ++ (B ++ (d ++ (zeros 1024 ++ C)))) = ap (λ (v : List ℕ). A ++ (v ++ C)) the_row ∙ simp append_assoc in
      let l : (F ++ B) ++ (d ++ (zeros 1024 ++ C)) ≡ A ++ (zeros 4 ++ (B ++ (d ++ (zeros 1024 ++ C)))) = simp append_assoc in
      u1 ∙ l ∙ sym (filled ∙ r)

-- ---- the rows of genesis
pub length-rows : (o : ℕ) (ds : List (List ℕ)) → length (map row_of (genesis o ds)) ≡ length ds
unfolding genesis
length-rows o [] = refl
length-rows o (d ∷ ds) = ap suc (length-rows (suc o) ds)

row-of : (o : ℕ) (d : List ℕ) → row_of (record { origin = o; round = 0; digest = d; parents = [] }) ≡ row_of (cert_with o 0 d [])
unfolding cert_with items chunks
row-of o d = refl

pub rows-sized : (o : ℕ) (ds : List (List ℕ)) → Sized 32 ds → Sized 1062 (map row_of (genesis o ds))
unfolding genesis
rows-sized o [] none = none
rows-sized o (d ∷ ds) (one e s) =
    one (ap length (row-of o d) ∙ row-size (cert_with o 0 d []) (certs-fit o 0 d [] e refl (omega arith))) (rows-sized (suc o) ds s)

row_at : (o : ℕ) (ds : List (List ℕ)) (i : ℕ) → i < length ds → get_or (map row_of (genesis o ds)) i [] ≡ row_of (cert_with (o + i) 0 (get_or ds i []) [])
unfolding genesis
row_at o [] i h = absurd (omega arith)
row_at o (d ∷ ds) zero h = row-of o d ∙ ap (λ (k : ℕ). row_of (cert_with k 0 d [])) (omega arith)
row_at o (d ∷ ds) (suc i) h = row_at (suc o) ds i (omega arith) ∙ ap (λ (k : ℕ). row_of (cert_with k 0 (get_or ds i []) [])) (omega arith)

pub digests-sized : (rs : List (List ℕ)) → Sized 68 rs → Sized 32 (map record_digest rs)
digests-sized [] none = none
digests-sized (r ∷ rs) (one e s) = one (digest-length r (record_digest r) e refl) (digests-sized rs s)

digest-at : (rs : List (List ℕ)) (i : ℕ) → i < length rs → get_or (map record_digest rs) i [] ≡ record_digest (get_or rs i [])
digest-at [] i h = absurd (omega arith)
digest-at (r ∷ rs) zero h = refl
digest-at (r ∷ rs) (suc i) h = digest-at rs i (omega arith)

-- ---- `put_rows`: the first i rows stand behind each other, and zeros past them
pub record Filling (g : List ℕ) (n : ℕ) (t₀ t : List ℕ) (i : ℕ) : Type 0 where
  pub same : length t ≡ length t₀
  pub is : t ≡ splice t₀ 8 (flat (take i (genesis_rows (map record_digest (items 68 g 0 n)))))

module _ (g : List ℕ) (n : ℕ) (t₀ : List ℕ) (few : n ≤ 32) (hg : n * 68 ≤ length g) (ht : 8 + n * 1062 ≤ length t₀) (zs : t₀ ≡ replicate (length t₀) 0) where
  abbrev ds : List (List ℕ)
  ds = map record_digest (items 68 g 0 n)

  many : length ds ≡ n
  many = length-map (items 68 g 0 n) record_digest ∙ length-items 68 g 0 n

  sized : Sized 1062 (genesis_rows ds)
  unfolding genesis_rows
  sized = rows-sized 0 ds (digests-sized (items 68 g 0 n) (items-sized 68 g 0 n (omega arith)))

  all-rows : length (genesis_rows ds) ≡ n
  unfolding genesis_rows
  all-rows = length-rows 0 ds ∙ many

  pub filling-start : Filling g n t₀ t₀ 0
  unfolding flat splice
  filling-start = record { same = refl; is = sym (take-append-drop 8 t₀) }

  module _ (t : List ℕ) (i : ℕ) (x : Filling g n t₀ t i) where
    pub filling-done : n ≤ i → t ≡ splice t₀ 8 (flat (genesis_rows (map record_digest (items 68 g 0 n))))
    filling-done m = let l = all-rows in x.is ∙ rw (take_all i (genesis_rows ds) (omega arith))

    module _ (m : i < n) where
      taken : length (flat (take i (genesis_rows ds))) ≡ i * 1062
      taken =
          let l : length (take i (genesis_rows ds)) ≡ i = let q = all-rows in length-take-le i (genesis_rows ds) (omega arith) in
          length-flat 1062 (take i (genesis_rows ds)) (sized-take 1062 (genesis_rows ds) i sized) ∙ ap (λ (k : ℕ). k * 1062) l

      pub filling-record : 0 + i * 68 + 68 ≤ length g
      filling-record = item-fits 68 g 0 n (omega arith) i m

      pub filling-item : (r : List ℕ) → r ≡ item_in 68 g 0 i → length r ≡ 68
      filling-item r e = ap length e ∙ item-length 68 g 0 n (omega arith) i m

      pub filling-few : i < 256
      filling-few = omega arith

      pub filling-fits : 8 + i * 1062 + 1062 ≤ length t
      filling-fits = omega (arith, x.same)

      pub filling-zeros : part t (8 + i * 1062) 1062 ≡ replicate 1062 0
      filling-zeros =
          let l = taken in
          ap (λ (v : List ℕ). part v (8 + i * 1062) 1062) x.is
          ∙ part-splice-after t₀ 8 (flat (take i (genesis_rows ds))) (omega arith) (8 + i * 1062) 1062 (omega arith)
          ∙ ap (λ (v : List ℕ). part v (8 + i * 1062) 1062) zs
          ∙ part-zeros (length t₀) (8 + i * 1062) 1062 (omega arith)

      module _ (r d : List ℕ) (e : r ≡ item_in 68 g 0 i) (f : d ≡ record_digest r) where
        pub filling-digest : length d ≡ 32
        filling-digest = digest-length r d (filling-item r e) f

        pub filling-next : (u : List ℕ) → u ≡ splice t (8 + i * 1062) (row_of (cert_with i 0 d [])) → Filling g n t₀ u (i + 1)
        unfolding genesis_rows
        filling-next u w =
            let row : List ℕ = row_of (cert_with i 0 d []) in
            let l = taken in
            let q = all-rows in
            let k = length-items 68 g 0 n in
            let c = many in
            let lr : length row ≡ 1062 = row-size (cert_with i 0 d []) (certs-fit i 0 d [] filling-digest refl (omega arith)) in
            let dr : d ≡ get_or ds i [] = f ∙ ap record_digest (e ∙ item-is 68 g 0 n (omega arith) i m) ∙ sym (digest-at (items 68 g 0 n) i (omega arith)) in
            let rr : row ≡ get_or (genesis_rows ds) i [] = ap (λ (v : List ℕ). row_of (cert_with i 0 v [])) dr ∙ sym (row_at 0 ds i (omega arith) ∙ ap (λ (j : ℕ). row_of (cert_with j 0 (get_or ds i []) [])) (omega arith)) in
            let y : flat (take (i + 1) (genesis_rows ds)) ≡ flat (take i (genesis_rows ds)) ++ row =
            rw (add-one, take-suc (genesis_rows ds) i [] (omega arith), flat_append, flat-one) (rw rr) in
            record {
              same = ap length w ∙ length-splice t (8 + i * 1062) row (omega (arith, x.same)) ∙ x.same;
              is =
                  w
                  ∙ ap (λ (v : List ℕ). splice v (8 + i * 1062) row) x.is
                  ∙ splice-next t₀ (flat (take i (genesis_rows ds))) row 8 (8 + i * 1062) (omega arith) (omega arith)
                  ∙ rw y;
            }

-- ---- `start_table`: zeros, the rows behind the count's place, the count
pub records-fit : (g : List ℕ) → length g / 68 * 68 ≤ length g
records-fit g = omega arith

pub length-digests : (g : List ℕ) → length (digests_of g) ≡ length g / 68
unfolding digests_of records_of
length-digests g = length-map (items 68 g 0 (length g / 68)) record_digest ∙ length-items 68 g 0 (length g / 68)

pub digests-are-sized : (g : List ℕ) → Sized 32 (digests_of g)
unfolding digests_of records_of
digests-are-sized g = digests-sized (items 68 g 0 (length g / 68)) (items-sized 68 g 0 (length g / 68) (omega arith))

pub table-started : (g t a b c : List ℕ) → 8 + length g / 68 * 1062 ≤ length t → a ≡ splice t 0 (replicate (length t) 0) → b ≡ splice a 8 (flat (genesis_rows (map record_digest (items 68 g 0 (length g / 68)))))
    → c ≡ splice b 0 (bytes 8 (length g / 68)) → c ≡ fresh_table (length t) (digests_of g)
unfolding fresh_table packed genesis_rows digests_of records_of
table-started g t a b c h ea eb ec =
    let n : ℕ = length g / 68 in
    let D : List (List ℕ) = digests_of g in
    let F : List ℕ = flat (genesis_rows D) in
    let Z : List ℕ = zeros (length t - (8 + n * 1062)) in
    let ln : length D ≡ n = length-digests g in
    let lr : length (genesis_rows D) ≡ n = length-rows 0 D ∙ ln in
    let lf : length F ≡ n * 1062 = length-flat 1062 (genesis_rows D) (rows-sized 0 D (digests-are-sized g)) ∙ ap (λ (k : ℕ). k * 1062) lr in
    let a1 : a ≡ zeros 8 ++ (zeros (n * 1062) ++ Z) =
    cleared t a ea
    ∙ zeros-add 8 (n * 1062 + (length t - (8 + n * 1062))) (length t) (omega arith)
    ∙ ap (λ (v : List ℕ). zeros 8 ++ v) (zeros-add (n * 1062) (length t - (8 + n * 1062)) (n * 1062 + (length t - (8 + n * 1062))) refl) in
    let b1 : b ≡ zeros 8 ++ (F ++ Z) =
    eb ∙ ap (λ (v : List ℕ). splice v 8 F) a1 ∙ splice-seam (zeros 8) (zeros (n * 1062)) F Z 8 (length-zeros 8) (lf ∙ sym (length-zeros (n * 1062))) in
    let c1 : c ≡ bytes 8 n ++ (F ++ Z) =
    ec ∙ ap (λ (v : List ℕ). splice v 0 (bytes 8 n)) b1 ∙ splice-seam [] (zeros 8) (bytes 8 n) (F ++ Z) 0 refl (length-bytes 8 n ∙ sym (length-zeros 8)) in
    c1 ∙ sym (rw (lr, ln))

-- ---- what the tests say
pub record ValidStart (ms g s t : List ℕ) : Type 0 where
  pub genesis : valid_genesis ms g ≡ true
  pub state : length s ≡ length ms / 69 * 4
  pub long : 8 ≤ length t
  pub whole : (length t - 8) % 1062 ≡ 0
  pub more : length ms / 69 < places 1062 t

pub valid-start : (ms g s t : List ℕ) → valid_start ms g s t ≡ true → ValidStart ms g s t
unfolding valid_start room_for
valid-start ms g s t h =
    let a = both _ _ h in
    let b = both _ _ a.0 in
    let c = both _ _ a.1 in
    let d = both _ _ c.0 in
    record {
      genesis = b.0;
      state = eqb-true _ _ b.1 ∙ ap (λ (k : ℕ). k * 4) (length-members ms);
      long = leb-true _ _ d.0;
      whole = eqb-true _ _ d.1;
      more = rw (length-members ms) at (ltb-true (length (members_of ms)) (places 1062 t) c.1);
    }

-- genesis has a record for each of the at most 32 members, and the table a place for each row
pub record Fits (ms g t : List ℕ) : Type 0 where
  pub records : length g / 68 ≡ length ms / 69
  pub few : length ms / 69 ≤ 32
  pub room : 8 + length ms / 69 * 1062 ≤ length t

pub fits : (ms g s t : List ℕ) → valid_members ms ≡ true → ValidStart ms g s t → Fits ms g t
unfolding places
fits ms g s t v x =
    let y = valid-genesis ms g x.genesis in
    let w = valid ms v in
    let m : length ms / 69 < (length t - 8) / 1062 = x.more in
    record { records = omega (arith, y.size); few = w.few; room = omega (arith, x.long) }

-- ---- `start`
module _ (setup g s t : List ℕ) where
  pub start_refused : (r : Refusal) → r ≡ BadCommittee → valid_setup setup ≡ false → Started setup g s t (Err r) s t
  unfolding start_answer
  start_refused r q v =
      let e : start_answer setup g s t ≡ Err r = rw q (rw (v, start_answer)) in
      record { answer = sym e; state = sym (when_refused (start_answer setup g s t) _ s r e); table = sym (when_refused (start_answer setup g s t) _ t r e) }

  module _ (setup-yes : valid_setup setup ≡ true) where
    module _ (ms : List ℕ) (em : ms ≡ drop 8 setup) (b : Bool) (eb : b ≡ valid_start ms g s t) where
      test-is : (x : Bool) → b ≡ x → valid_start (drop 8 setup) g s t ≡ x
      test-is x q = ap (λ (w : List ℕ). valid_start w g s t) (sym em) ∙ sym eb ∙ q

      pub start-shape : not b ≡ true → Started setup g s t (Err BadShape) s t
      unfolding start_answer
      start-shape f =
          let e : start_answer setup g s t ≡ (Err BadShape) = rw (setup-yes, start_answer, test-is false (not-true b f), start_answer) in
          record { answer = sym e; state = sym (when_refused (start_answer setup g s t) _ s BadShape e); table = sym (when_refused (start_answer setup g s t) _ t BadShape e) }

      module _ (f : not b ≡ false) where
        valid-is : ValidStart (drop 8 setup) g s t
        valid-is = valid-start (drop 8 setup) g s t (test-is true (not-false b f))

        fits-is : Fits (drop 8 setup) g t
        fits-is = fits (drop 8 setup) g s t (valid-setup setup setup-yes).members valid-is

        pub start-few : length g / 68 ≤ 32
        start-few = omega (arith, fits-is)

        pub start-room : 8 + length g / 68 * 1062 ≤ length t
        start-room = omega (arith, fits-is)

        pub start-done : (s' t' : List ℕ) → s' ≡ splice s 0 (replicate (length s) 0) → t' ≡ fresh_table (length t) (digests_of g) → Started setup g s t (Ok 0) s' t'
        unfolding start_answer fresh_state
        start-done s' t' es et =
            let e : start_answer setup g s t ≡ Ok 0 = rw (setup-yes, start_answer, test-is true (not-false b f), start_answer) in
            let l : length s ≡ length (members_of (drop 8 setup)) * 4 = valid-is.state ∙ ap (λ (k : ℕ). k * 4) (sym (length-members (drop 8 setup))) in
            record {
              answer = sym e;
              state = cleared s s' es ∙ ap zeros l ∙ sym (when-done (start_answer setup g s t) (zeros (length (members_of (drop 8 setup)) * 4)) s 0 e);
              table = et ∙ sym (when-done (start_answer setup g s t) (fresh_table (length t) (digests_of g)) t 0 e);
            }

-- ---- what `code` asks of a start's answer
none-listed : (setup g s t : List ℕ) → value_of (start_answer setup g s t) ≡ 0
unfolding start_answer
none-listed setup g s t = go (valid_setup setup) refl (valid_start (drop 8 setup) g s t) refl
  where
    go : (a : Bool) → valid_setup setup ≡ a → (b : Bool) → valid_start (drop 8 setup) g s t ≡ b → value_of (start_answer setup g s t) ≡ 0
    go true p true q = rw (p, start_answer, q, start_answer)
    go true p false q = rw (p, start_answer, q, start_answer)
    go false p b q = rw (p, start_answer)

pub start_small : (setup g s t : List ℕ) (r : Answer) (s' t' : List ℕ) → Started setup g s t r s' t' → value_of r < 256 ^ 7
start_small setup g s t r s' t' x = let e : value_of r ≡ 0 = ap (λ (a : Answer). value_of a) x.answer ∙ none-listed setup g s t in omega arith
