-- The bytes of the commit table and of the state, read as the definitions have them. Assumes nothing.
use mathlib.Core.Path.{◌≡◌, refl, sym, ap, ◌∙◌}
use mathlib.Core.Bool.{Bool, true, false, not, ◌&&◌, ◌||◌}
use mathlib.Core.List.{List, [], ◌∷◌, map, append-nil}
use Prim.Native.Nat.{ℕ, zero, suc, ◌+◌, ◌-◌, ◌*◌, ◌/◌, ◌≤◌, ◌<◌}
use native.Mathlib.Nat.{le_of_suc-le-suc, not-suc-le-zero}
use native.Mathlib.Numerals.{add-one}
use native.Mathlib.Omega.{arith}
use borrow.Author.Tests.{eq-eqb, ne_eqb, lt-ltb, le-ltb, le-leb, lt-leb, ltb-true, leb-true, not-true, not-false}
use lib.Dec.{eqb, ltb, leb}
use lib.ListN.{length, get_or, take, drop, length-map, drop_of_length-le, length-drop}
use lib.Seq.{drop-cons, take_at}
use Rattle.wire.specs.Bytes.{part, alike}
use Rattle.wire.specs.Items.{chunks, items, item_in, flat, has_part, first_of, all_of}
use Rattle.std.specs.Prelude.{Option, Some, None, MatchOption, IfSome, IsSome}
use Rattle.std.specs.Option.{unwrap_or, is_some}
use Rattle.std.proofs.lemmas.Option.{MatchOption-at_some}
use Rattle.std.specs.List.{list_any, range_with_len}
use Rattle.wire.proofs.Laws.{length_part, part-all}
use Rattle.wire.proofs.Lists.{Sized, one, length-chunks, chunks-sized, chunks-flat, flat-chunks, length-flat, length-items, items-sized, all-at}
use Rattle.table.specs.Rows.{count_of, shaped, rows_of, places, round_of, has_round_part}
use Rattle.table.proofs.Laws.{is-long, few-rows, row_is, row_fits, row-length}
use Rattle.room.specs.Numbers.{rounds_of}
use Rattle.room.proofs.Laws.{length-rounds}
use Rattle.config.proofs.Laws.{both}
use Rattle.consensus.specs.Table.{Cert, cert_at, clash, same_pair, find, pair_place, of_round, is_empty, highest, none}
use Rattle.consensus.specs.Leaders.{is_in}
use Rattle.held.specs.Rows.{origin_in, parent_count, digest_in, parents_in, cert_of, held_of, lasts_of, lawful_row, held_shape}

-- ---- a place's row

pub length-held : (t : List ℕ) → length (held_of t) ≡ count_of t
unfolding held_of rows_of
length-held t = length-map (rows_of 1062 t) cert_of ∙ length-items 1062 t 8 (count_of t)

map_at : (rs : List (List ℕ)) (i : ℕ) → i < length rs → cert_at (map cert_of rs) i ≡ cert_of (get_or rs i [])
unfolding cert_at
map_at [] i h = absurd (not-suc-le-zero h)
map_at (r ∷ rs) zero h = refl
map_at (r ∷ rs) (suc i) h = map_at rs i (le_of_suc-le-suc h)

module _ (t : List ℕ) (i : ℕ) (s : shaped 1062 t ≡ true) (h : i < count_of t) where
  pub place-fits : 8 + i * 1062 + 1062 ≤ length t
  place-fits = row_fits 1062 t i s h

  pub place-length : (r : List ℕ) → r ≡ item_in 1062 t 8 i → length r ≡ 1062
  place-length r e = rw e (row-length 1062 t i s h)

  pub place_is : cert_at (held_of t) i ≡ cert_of (item_in 1062 t 8 i)
  unfolding held_of rows_of
  place_is = map_at (rows_of 1062 t) i (rw (length-items 1062 t 8 (count_of t)) h) ∙ ap cert_of (sym (row_is 1062 t i s h))

  pub round_is : (r : List ℕ) (x : ℕ) → r ≡ item_in 1062 t 8 i → x ≡ round_of r → x ≡ (cert_at (held_of t) i).round
  unfolding cert_of
  round_is r x e f = f ∙ ap round_of e ∙ ap (λ (c : Cert). c.round) (sym place_is)

  pub origin-is : (r : List ℕ) (x : ℕ) → r ≡ item_in 1062 t 8 i → x ≡ origin_in r → x ≡ (cert_at (held_of t) i).origin
  unfolding cert_of
  origin-is r x e f = f ∙ ap origin_in e ∙ ap (λ (c : Cert). c.origin) (sym place_is)

  pub digest-is : (r x : List ℕ) → r ≡ item_in 1062 t 8 i → x ≡ digest_in r → x ≡ (cert_at (held_of t) i).digest
  unfolding cert_of
  digest-is r x e f = f ∙ ap digest_in e ∙ ap (λ (c : Cert). c.digest) (sym place_is)

  pub parents-is : (r x : List ℕ) → r ≡ item_in 1062 t 8 i → x ≡ flat (parents_in r) → x ≡ flat (cert_at (held_of t) i).parents
  unfolding cert_of
  parents-is r x e f = f ∙ ap (λ (v : List ℕ). flat (parents_in v)) e ∙ ap (λ (c : Cert). flat c.parents) (sym place_is)

  pub digest-length : length (cert_at (held_of t) i).digest ≡ 32
  unfolding cert_of digest_in
  digest-length = ap (λ (c : Cert). length c.digest) place_is ∙ length_part (item_in 1062 t 8 i) 6 32 (rw (row-length 1062 t i s h) (omega arith))

-- ---- a row's fields

take_chunks : (size : ℕ) (xs : List ℕ) (n : ℕ) → n * size ≤ length xs → take (n * size) xs ≡ flat (chunks size xs n)
take_chunks size xs n h =
    ap (take (n * size)) (sym (flat-chunks size xs n))
    ∙ take_at (flat (chunks size xs n)) (drop (n * size) xs) (n * size) (length-flat size (chunks size xs n) (chunks-sized size xs n h) ∙ rw (length-chunks size xs n))

pub parents-part : (row : List ℕ) (k : ℕ) → length row ≡ 1062 → parent_count row ≤ 32 → k ≡ parent_count row → take (38 + k * 32 - 38) (drop 38 row) ≡ flat (parents_in row)
unfolding parents_in items
parents-part row k l h e =
    let d = length-drop 38 row in
    let z : 38 + k * 32 - 38 ≡ k * 32 = omega arith in
    rw z (take_chunks 32 (drop 38 row) k (omega arith) ∙ ap (λ (v : ℕ). flat (chunks 32 (drop 38 row) v)) e)

pub digest-fits : (d : List ℕ) → length d ≡ 32 → 6 + length d ≤ 1062
digest-fits d e = omega arith

module _ (n : ℕ) (row : List ℕ) where
  pub lawful-stranger : (o : ℕ) → o ≡ origin_in row → n ≤ o → false ≡ lawful_row n row
  unfolding lawful_row
  lawful-stranger o e h = sym (rw (le-ltb (origin_in row) n (omega arith)))

  module _ (o : ℕ) (eo : o ≡ origin_in row) (ho : o < n) where
    pub lawful-many : (k : ℕ) → k ≡ parent_count row → 32 < k → false ≡ lawful_row n row
    unfolding lawful_row
    lawful-many k e h = sym (rw (lt-ltb (origin_in row) n (omega arith), lt-leb (parent_count row) 32 (omega arith)))

    module _ (k : ℕ) (ek : k ≡ parent_count row) (hk : k ≤ 32) (x : ℕ) (ex : x ≡ round_of row) where
      pub lawful-later : (x ≡ 0 → ⊥) → true ≡ lawful_row n row
      unfolding lawful_row
      lawful-later h = sym (rw (lt-ltb (origin_in row) n (omega arith), le-leb (parent_count row) 32 (omega arith), ne_eqb (round_of row) 0 (λ z. h (ex ∙ z))))

      pub lawful-0 : x ≡ 0 → (j : ℕ) → j ≡ parent_count row → eqb j 0 ≡ lawful_row n row
      unfolding lawful_row
      lawful-0 h j ej = sym (rw (lt-ltb (origin_in row) n (omega arith), le-leb (parent_count row) 32 (omega arith), eq-eqb (round_of row) 0 (sym ex ∙ h), ← ej))

-- ---- a lawful table

pub record Lawful (n : ℕ) (t : List ℕ) : Type 0 where
  pub shape : shaped 1062 t ≡ true
  pub more : n < places 1062 t
  pub each : all_of (lawful_row n) (rows_of 1062 t) ≡ true

pub lawful : (n : ℕ) (t : List ℕ) → held_shape n t ≡ true → Lawful n t
unfolding held_shape
lawful n t e =
    let x = both (shaped 1062 t && ltb n (places 1062 t)) (all_of (lawful_row n) (rows_of 1062 t)) e in
    let y = both (shaped 1062 t) (ltb n (places 1062 t)) x.0 in
    record { shape = y.0; more = ltb-true n (places 1062 t) y.1; each = x.1 }

pub lawful-shape : (n : ℕ) (t : List ℕ) → held_shape n t ≡ true → shaped 1062 t ≡ true
lawful-shape n t e = (lawful n t e).shape

-- what a lawful row is
pub record LawfulRow (n : ℕ) (row : List ℕ) : Type 0 where
  pub member : origin_in row < n
  pub few : parent_count row ≤ 32

pub lawful-row : (n : ℕ) (row : List ℕ) → lawful_row n row ≡ true → LawfulRow n row
unfolding lawful_row
lawful-row n row e =
    let x = both (ltb (origin_in row) n && leb (parent_count row) 32) (not (eqb (round_of row) 0) || eqb (parent_count row) 0) e in
    let y = both (ltb (origin_in row) n) (leb (parent_count row) 32) x.0 in
    record { member = ltb-true (origin_in row) n y.0; few = leb-true (parent_count row) 32 y.1 }

module _ (n : ℕ) (t : List ℕ) (i : ℕ) (s : held_shape n t ≡ true) (h : i < count_of t) where
  row_lawful : LawfulRow n (item_in 1062 t 8 i)
  unfolding rows_of
  row_lawful =
      let l = lawful n t s in
      lawful-row n (item_in 1062 t 8 i)
      (ap (lawful_row n) (row_is 1062 t i l.shape h) ∙ all-at (lawful_row n) (rows_of 1062 t) i l.each (rw (length-items 1062 t 8 (count_of t)) h))

  pub few-parents : (r : List ℕ) → r ≡ item_in 1062 t 8 i → parent_count r ≤ 32
  few-parents r e = rw e row_lawful.few

  -- the origin is a member
  pub origin-below : (cert_at (held_of t) i).origin < n
  unfolding cert_of
  origin-below = rw (place_is t i (lawful n t s).shape h) row_lawful.member

  -- the parents are digests, not over 32 of them
  pub parents-sized : Sized 32 (cert_at (held_of t) i).parents
  unfolding cert_of parents_in
  parents-sized =
      let r = item_in 1062 t 8 i in
      let l = row-length 1062 t i (lawful n t s).shape h in
      let k = row_lawful.few in
      rw (place_is t i (lawful n t s).shape h) (items-sized 32 r 38 (parent_count r) (omega arith))

  pub parents-few : length (cert_at (held_of t) i).parents ≤ 32
  unfolding cert_of parents_in
  parents-few =
      let r = item_in 1062 t 8 i in
      let k = row_lawful.few in
      rw (place_is t i (lawful n t s).shape h) (rw (length-items 32 r 38 (parent_count r)) k)

-- ---- naming a parent

nothing-at : {i : ℕ} → None ≡ Some i → ⊥
nothing-at e = let z : ◌≡◌ {A = ℕ} 0 1 = ap rank e in omega arith
  where
    rank : Option ℕ → ℕ
    rank None = 0
    rank (Some j) = 1

at-inj : (i j : ℕ) → Some i ≡ Some j → i ≡ j
at-inj i j e = cc

has-is : (d x : List ℕ) → length d ≡ 32 → length x ≡ 32 → has_part 0 d x ≡ alike x d
unfolding has_part
has-is d x ld lx = ap (λ (v : List ℕ). alike v d) (ap (part x 0) ld ∙ part-all x 32 lx)

module _ (d : List ℕ) (ld : length d ≡ 32) where
  in-first : (ds : List (List ℕ)) (j i : ℕ) → Sized 32 ds → first_of (has_part 0 d) ds j ≡ Some i → is_in d ds ≡ true
  unfolding first_of is_in
  in-first [] j i s e = absurd (nothing-at e)
  in-first (x ∷ ds) j i (one l s) e = go (in-first ds (suc j) i s) (alike x d) refl e
    where
      go : (first_of (has_part 0 d) ds (suc j) ≡ Some i → is_in d ds ≡ true) → (b : Bool) → alike x d ≡ b → first_of (has_part 0 d) (x ∷ ds) j ≡ Some i → is_in d (x ∷ ds) ≡ true
      go ih true q e = rw (q, is_in)
      go ih false q e = let h : has_part 0 d x ≡ false = has-is d x ld l ∙ q in rw (q, is_in) (ih (rw (h, first_of) at e))

  not_first : (ds : List (List ℕ)) (j : ℕ) → Sized 32 ds → first_of (has_part 0 d) ds j ≡ None → is_in d ds ≡ false
  unfolding first_of is_in
  not_first [] j s e = refl
  not_first (x ∷ ds) j (one l s) e = go (not_first ds (suc j) s) (alike x d) refl e
    where
      go : (first_of (has_part 0 d) ds (suc j) ≡ None → is_in d ds ≡ false) → (b : Bool) → alike x d ≡ b → first_of (has_part 0 d) (x ∷ ds) j ≡ None → is_in d (x ∷ ds) ≡ false
      go ih true q e = let h : has_part 0 d x ≡ true = has-is d x ld l ∙ q in absurd (nothing-at (sym (rw (h, first_of) at e)))
      go ih false q e = let h : has_part 0 d x ≡ false = has-is d x ld l ∙ q in rw (q, is_in) (ih (rw (h, first_of) at e))

-- parents one behind the other, read again as a list
flat_items : (ds : List (List ℕ)) (ps : List ℕ) → Sized 32 ds → ps ≡ flat ds → items 32 ps 0 (length ps / 32) ≡ ds
unfolding items
flat_items ds ps s e =
    let l : length ps ≡ length ds * 32 = ap length e ∙ length-flat 32 ds s in
    let k : length ps / 32 ≡ length ds = omega arith in
    rw k (ap (λ (v : List ℕ). chunks 32 v (length ds)) (e ∙ sym (append-nil (flat ds))) ∙ chunks-flat 32 ds [] s)

module _ (n : ℕ) (t : List ℕ) (i : ℕ) (s : held_shape n t ≡ true) (h : i < count_of t) (d ps : List ℕ) (ld : length d ≡ 32)
    (e : ps ≡ flat (cert_at (held_of t) i).parents) (f : Option ℕ) (g : f ≡ first_of (has_part 0 d) (items 32 ps 0 (length ps / 32)) 0) where
  found : f ≡ first_of (has_part 0 d) (cert_at (held_of t) i).parents 0
  found = g ∙ ap (λ (v : List (List ℕ)). first_of (has_part 0 d) v 0) (flat_items (cert_at (held_of t) i).parents ps (parents-sized n t i s h) e)

  pub names-yes : (j : ℕ) → f ≡ Some j → true ≡ is_in d (cert_at (held_of t) i).parents
  names-yes j q = sym (in-first d ld (cert_at (held_of t) i).parents 0 j (parents-sized n t i s h) (sym found ∙ q))

  pub names-no : f ≡ None → false ≡ is_in d (cert_at (held_of t) i).parents
  names-no q = sym (not_first d ld (cert_at (held_of t) i).parents 0 (parents-sized n t i s h) (sym found ∙ q))

-- ---- finding a round and a digest

round-part : (r : ℕ) (d row : List ℕ) → length d ≡ 32 → has_round_part r 6 d row ≡ (eqb (cert_of row).round r && alike (cert_of row).digest d)
unfolding has_round_part has_part cert_of digest_in
round-part r d row ld = go (eqb (round_of row) r) refl
  where
    go : (b : Bool) → eqb (round_of row) r ≡ b → has_round_part r 6 d row ≡ (eqb (round_of row) r && alike (digest_in row) d)
    go true q = rw (q, has_round_part, ld)
    go false q = rw (q, has_round_part)

module _ (r : ℕ) (d : List ℕ) (ld : length d ≡ 32) where
  find_first : (rs : List (List ℕ)) (j i : ℕ) → first_of (has_round_part r 6 d) rs j ≡ Some i → i ≡ j + find r d (map cert_of rs)
  unfolding first_of find
  find_first [] j i e = absurd (nothing-at e)
  find_first (x ∷ rs) j i e = go (find_first rs (suc j) i) (eqb (cert_of x).round r && alike (cert_of x).digest d) refl e
    where
      go : (first_of (has_round_part r 6 d) rs (suc j) ≡ Some i → i ≡ suc j + find r d (map cert_of rs)) → (b : Bool) → (eqb (cert_of x).round r && alike (cert_of x).digest d) ≡ b
          → first_of (has_round_part r 6 d) (x ∷ rs) j ≡ Some i → i ≡ j + find r d (map cert_of (x ∷ rs))
      go ih true q e = let h = round-part r d x ld ∙ q in rw (q, find) (sym (at-inj j i (rw (h, first_of) at e)) ∙ omega arith)
      go ih false q e = let h = round-part r d x ld ∙ q in rw (q, find) (ih (rw (h, first_of) at e) ∙ omega arith)

  find-nothing : (rs : List (List ℕ)) (j : ℕ) → first_of (has_round_part r 6 d) rs j ≡ None → length rs ≡ find r d (map cert_of rs)
  unfolding first_of find
  find-nothing [] j e = refl
  find-nothing (x ∷ rs) j e = go (find-nothing rs (suc j)) (eqb (cert_of x).round r && alike (cert_of x).digest d) refl e
    where
      go : (first_of (has_round_part r 6 d) rs (suc j) ≡ None → length rs ≡ find r d (map cert_of rs)) → (b : Bool) → (eqb (cert_of x).round r && alike (cert_of x).digest d) ≡ b
          → first_of (has_round_part r 6 d) (x ∷ rs) j ≡ None → length (x ∷ rs) ≡ find r d (map cert_of (x ∷ rs))
      go ih true q e = let h = round-part r d x ld ∙ q in absurd (nothing-at (sym (rw (h, first_of) at e)))
      go ih false q e = let h = round-part r d x ld ∙ q in rw (q, find) (ap suc (ih (rw (h, first_of) at e)))

pub find-is : (t : List ℕ) (r : ℕ) (d : List ℕ) (f : Option ℕ) → length d ≡ 32 → f ≡ first_of (has_round_part r 6 d) (rows_of 1062 t) 0 → unwrap_or f (count_of t) ≡ find r d (held_of t)
unfolding held_of rows_of
find-is t r d None ld g = sym (length-items 1062 t 8 (count_of t)) ∙ find-nothing r d ld (rows_of 1062 t) 0 (sym g)
find-is t r d (Some i) ld g = find_first r d ld (rows_of 1062 t) 0 i (sym g) ∙ omega arith

first-within : (test : List ℕ → Bool) (rs : List (List ℕ)) (j i : ℕ) → first_of test rs j ≡ Some i → i < j + length rs
unfolding first_of
first-within test [] j i e = absurd (nothing-at e)
first-within test (x ∷ rs) j i e = go (first-within test rs (suc j) i) (test x) refl e
  where
    go : (first_of test rs (suc j) ≡ Some i → i < suc j + length rs) → (b : Bool) → test x ≡ b → first_of test (x ∷ rs) j ≡ Some i → i < j + length (x ∷ rs)
    go ih true q e = let k = at-inj j i (rw (q, first_of) at e) in omega arith
    go ih false q e = let k = ih (rw (q, first_of) at e) in omega arith

pub find-within : (t : List ℕ) (test : List ℕ → Bool) (f : Option ℕ) → f ≡ first_of test (rows_of 1062 t) 0 → IfSome f (λ i. i < count_of t)
unfolding rows_of
find-within t test None g = tt
find-within t test (Some i) g = let k = first-within test (rows_of 1062 t) 0 i (sym g) in let l = length-items 1062 t 8 (count_of t) in omega arith

-- ---- a round held

abbrev pub of_the_round : ℕ → List ℕ → Bool
of_the_round r row = eqb (round_of row) r

round-first : (r : ℕ) (rs : List (List ℕ)) (j : ℕ) → is_some (first_of (of_the_round r) rs j) ≡ not (is_empty (of_round r (map cert_of rs)))
unfolding first_of of_round cert_of
round-first r [] j = refl
round-first r (row ∷ rs) j = go (round-first r rs (suc j)) (eqb (round_of row) r) refl
  where
    go : is_some (first_of (of_the_round r) rs (suc j)) ≡ not (is_empty (of_round r (map cert_of rs))) → (b : Bool) → eqb (round_of row) r ≡ b
        → is_some (first_of (of_the_round r) (row ∷ rs) j) ≡ not (is_empty (of_round r (map cert_of (row ∷ rs))))
    go ih true q = rw (q, first_of, of_round)
    go ih false q = rw (q, first_of, of_round) ih

pub rounds-are : (t : List ℕ) (r : ℕ) (b : Bool) → b ≡ is_some (first_of (of_the_round r) (rows_of 1062 t) 0) → b ≡ not (is_empty (of_round r (held_of t)))
unfolding held_of
rounds-are t r b e = e ∙ round-first r (rows_of 1062 t) 0

-- ---- going over the table place by place

pub held-step : (t : List ℕ) (i : ℕ) → i < count_of t → drop i (held_of t) ≡ cert_at (held_of t) i ∷ drop (i + 1) (held_of t)
unfolding cert_at
held-step t i h = rw add-one (drop-cons (held_of t) i none (rw (length-held t) h))

pub held-end : (t : List ℕ) (i : ℕ) → count_of t ≤ i → drop i (held_of t) ≡ []
held-end t i h = drop_of_length-le (held_of t) {i = i} (rw (length-held t) h)

-- the search for an origin and a round
abbrev pub of_the_pair : ℕ → ℕ → List ℕ → Bool
of_the_pair o r row = eqb (origin_in row) o && eqb (round_of row) r

module _ (o r : ℕ) where
  pair-first : (rs : List (List ℕ)) (j : ℕ) → unwrap_or (first_of (of_the_pair o r) rs j) (j + length rs) ≡ j + pair_place o r (map cert_of rs)
  unfolding first_of pair_place cert_of
  pair-first [] j = refl
  pair-first (row ∷ rs) j =
      let i = pair-first rs (suc j) in
      let z : j + suc (length rs) ≡ suc j + length rs = omega arith in
      elim (of_the_pair o r row) as (λ (b : Bool). unwrap_or (elim b [ true ↦ Some j | false ↦ first_of (of_the_pair o r) rs (suc j) ]) (j + suc (length rs)) ≡ j + elim b [ true ↦ 0 | false ↦ suc (pair_place o r (map cert_of rs)) ]) [ true ↦ omega arith | false ↦ rw z (i ∙ omega arith) ]

  pub pair-is : (t : List ℕ) (f : Option ℕ) → f ≡ first_of (of_the_pair o r) (rows_of 1062 t) 0 → unwrap_or f (count_of t) ≡ pair_place o r (held_of t)
  unfolding held_of rows_of
  pair-is t f g =
      let n : 0 + length (rows_of 1062 t) ≡ count_of t = let l = length-items 1062 t 8 (count_of t) in omega arith in
      ap (λ (v : Option ℕ). unwrap_or v (count_of t)) g ∙ ap (unwrap_or (first_of (of_the_pair o r) (rows_of 1062 t) 0)) (sym n) ∙ pair-first (rows_of 1062 t) 0 ∙ omega arith

pub of-pair-at : (t : List ℕ) (i o r : ℕ) (b : Bool) (row : List ℕ) → shaped 1062 t ≡ true → i < count_of t → row ≡ item_in 1062 t 8 i → b ≡ of_the_pair o r row
    → b ≡ (eqb (cert_at (held_of t) i).origin o && eqb (cert_at (held_of t) i).round r)
unfolding cert_of
of-pair-at t i o r b row s h e f = f ∙ ap (of_the_pair o r) e ∙ ap (λ (c : Cert). eqb c.origin o && eqb c.round r) (sym (place_is t i s h))

-- the place that is told, where n are held; where none is told, the definition says n
module _ (f : Option ℕ) (n p : ℕ) (e : unwrap_or f n ≡ p) where
  pub placed : (m x : ℕ) → m ≡ n → x ≡ unwrap_or f m → x ≡ p
  placed m x g q = q ∙ ap (unwrap_or f) g ∙ e

  pub some-place : (x : ℕ) → f ≡ Some x → x ≡ p
  some-place x g = sym (ap (λ (v : Option ℕ). unwrap_or v n) g) ∙ e

  pub no-place : f ≡ None → n ≡ p
  no-place g = sym (ap (λ (v : Option ℕ). unwrap_or v n) g) ∙ e

pub place-within : (f : Option ℕ) (n x : ℕ) → IfSome f (λ i. i < n) → f ≡ Some x → x < n
place-within f n x h e = MatchOption-at_some _ (λ i. i < n) x e h

pub is-told : (f : Option ℕ) (n p : ℕ) → unwrap_or f n ≡ p → p < n → IsSome f
is-told None n p e h = absurd (omega arith)
is-told (Some x) n p e h = refl

module _ (x o y r a b : ℕ) (e : x ≡ a) where
  pub other-origin : (x ≡ o → ⊥) → false ≡ (eqb a o && eqb b r)
  other-origin h = sym (rw (ne_eqb a o (λ z. h (e ∙ z))))

  pub this-origin : x ≡ o → y ≡ b → eqb y r ≡ (eqb a o && eqb b r)
  this-origin h f = sym (rw (eq-eqb a o (sym e ∙ h), ← f))

-- ---- a digest under another origin or round

module _ (c d : List ℕ) (lc : length c ≡ 32) (ld : length d ≡ 32) where
  same-digests : alike (part c 0 32) (part d 0 32) ≡ alike c d
  same-digests = rw (part-all c 32 lc, part-all d 32 ld)

module _ (t : List ℕ) (i : ℕ) (s : shaped 1062 t ≡ true) (h : i < count_of t) (c d : List ℕ) (o r : ℕ) (ld : length d ≡ 32) (b : Bool)
    (ec : c ≡ (cert_at (held_of t) i).digest) (e : b ≡ alike (part c 0 32) (part d 0 32)) where
  digests-are : alike (cert_at (held_of t) i).digest d ≡ b
  digests-are = ap (λ (v : List ℕ). alike v d) (sym ec) ∙ sym (e ∙ same-digests c d (ap length ec ∙ digest-length t i s h) ld)

  pub clash-other : not b ≡ true → false ≡ (alike (cert_at (held_of t) i).digest d && not (eqb (cert_at (held_of t) i).origin o && eqb (cert_at (held_of t) i).round r))
  clash-other q = let z : alike (cert_at (held_of t) i).digest d ≡ false = digests-are ∙ not-true _ q in sym (rw z)

  pub clash-same : (k : Bool) → not b ≡ false → k ≡ (eqb (cert_at (held_of t) i).origin o && eqb (cert_at (held_of t) i).round r)
      → not k ≡ (alike (cert_at (held_of t) i).digest d && not (eqb (cert_at (held_of t) i).origin o && eqb (cert_at (held_of t) i).round r))
  clash-same k q ek = let z : alike (cert_at (held_of t) i).digest d ≡ true = digests-are ∙ not-false _ q in sym (rw (z, ← ek))

abbrev pub clashing_at : List ℕ → ℕ → ℕ → List ℕ → ℕ → Bool
clashing_at t o r d k = alike (cert_at (held_of t) k).digest d && not (eqb (cert_at (held_of t) k).origin o && eqb (cert_at (held_of t) k).round r)

module _ (t : List ℕ) (x : Cert) where
  clash-from : (n a : ℕ) → a + n ≡ count_of t → list_any (clashing_at t x.origin x.round x.digest) (range_with_len a n) ≡ clash x (drop a (held_of t))
  unfolding clash same_pair
  clash-from zero a e = rw (held-end t a (omega arith))
  clash-from (suc n) a e =
      let i = clash-from n (a + 1) (omega arith) in
      elim (clashing_at t x.origin x.round x.digest a) as (λ (b : Bool). (b || list_any (clashing_at t x.origin x.round x.digest) (range_with_len (a + 1) n)) ≡ elim b [ true ↦ true | false ↦ clash x (drop (a + 1) (held_of t)) ]) [ true ↦ refl | false ↦ i ]
      ∙ sym (ap (clash x) (held-step t a (omega arith)))

  pub clash-is : (n : ℕ) (b : Bool) → n ≡ count_of t → b ≡ list_any (clashing_at t x.origin x.round x.digest) (range_with_len 0 n) → b ≡ clash x (held_of t)
  clash-is n b e g = g ∙ clash-from n 0 (omega arith)

-- ---- the table's shape

module _ (n : ℕ) (t : List ℕ) (s : Bool) (es : s ≡ shaped 1062 t) where
  pub shape-not : not s ≡ true → false ≡ held_shape n t
  unfolding held_shape
  shape-not q = let z : shaped 1062 t ≡ false = sym es ∙ not-true _ q in sym (rw z)

  module _ (q : not s ≡ false) where
    pub shape-yes : shaped 1062 t ≡ true
    shape-yes = sym es ∙ not-false _ q

    pub shape-long : 8 ≤ length t
    shape-long = is-long 1062 t shape-yes

    pub shape-few : (length t - 8) / 1062 ≤ n → false ≡ held_shape n t
    unfolding held_shape places
    shape-few h = let z = shape-yes in sym (rw (z, le-ltb n ((length t - 8) / 1062) h))

    pub shape-rows : (b : Bool) → n < (length t - 8) / 1062 → b ≡ all_of (lawful_row n) (rows_of 1062 t) → b ≡ held_shape n t
    unfolding held_shape places
    shape-rows b h e = let z = shape-yes in e ∙ sym (rw (z, lt-ltb n ((length t - 8) / 1062) h))

pub count_small : (t : List ℕ) (n : ℕ) → shaped 1062 t ≡ true → n ≡ count_of t → n + 8 ≤ length t
count_small t n s e = let f = few-rows 1062 t s in omega arith

-- ---- the state

pub length-lasts : (st : List ℕ) → length (lasts_of st) ≡ length st / 4
unfolding lasts_of
length-lasts st = length-rounds st

pub last-is : (st : List ℕ) (o x : ℕ) → x ≡ get_or (rounds_of st) o 0 → x ≡ get_or (lasts_of st) o 0
unfolding lasts_of
last-is st o x e = e

at-most : (xs : List ℕ) (m : ℕ) → ((k : ℕ) → k < length xs → get_or xs k 0 ≤ m) → highest xs ≤ m
unfolding highest
at-most [] m h = omega arith
at-most (x ∷ xs) m h = let a = h 0 (omega arith) in let b = at-most xs m (λ k l. h (suc k) (omega arith)) in omega arith

at-least : (xs : List ℕ) (k : ℕ) → k < length xs → get_or xs k 0 ≤ highest xs
unfolding highest
at-least [] k l = absurd (not-suc-le-zero l)
at-least (x ∷ xs) zero l = omega arith
at-least (x ∷ xs) (suc k) l = let a = at-least xs k (le_of_suc-le-suc l) in omega arith

-- the maximum, where there is a number at all
pub highest-is : (st : List ℕ) (r : Option ℕ) (x : ℕ)
    → MatchOption r (length st / 4 ≡ 0) (λ m. (k : ℕ) → k < length st / 4 → get_or (lasts_of st) k 0 ≤ m)
    → MatchOption r (length st / 4 ≡ 0) (λ m. (k : ℕ) × (k < length st / 4) × (get_or (lasts_of st) k 0 ≡ m))
    → x ≡ unwrap_or r 0 → x ≡ highest (lasts_of st)
highest-is st None x a b q =
    let l = length-lasts st in
    let h = at-most (lasts_of st) 0 (λ k i. absurd (omega arith)) in
    omega arith
highest-is st (Some m) x a b q =
    let l = length-lasts st in
    let h = at-most (lasts_of st) m (λ k i. a k (omega arith)) in
    let g = at-least (lasts_of st) b.0 (omega (arith, b.1)) in
    omega (arith, b.2)
