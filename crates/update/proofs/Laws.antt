-- Entries written, rounds raised, rows kept. Assumes nothing.
use mathlib.Core.Path.{◌≡◌, refl, sym, ap, ◌∙◌}
use mathlib.Core.Bool.{Bool, true, false}
use mathlib.Core.List.{List, [], ◌∷◌, ◌++◌, map, append-nil, append_assoc}
use Prim.Native.Nat.{ℕ, zero, suc, ◌+◌, ◌-◌, ◌*◌, ◌/◌, ◌^◌, ◌≤◌, ◌<◌, max}
use native.Mathlib.Nat.{add-zero}
use native.Mathlib.Numerals.{add-one}
use native.Mathlib.Omega.{arith}
use mathlib.Core.Logic.{◌⊎◌, inl, inr}
use borrow.Author.Tests.{lt-ltb, le-ltb, lt-leb, le-leb}
use lib.Dec.{ltb, leb}
use lib.ListN.{length, get_or, set, take, length-append, take-append-drop}
use lib.Seq.{take-suc}
use Rattle.wire.specs.Bytes.{bytes, splice}
use Rattle.wire.specs.Items.{flat, item_in, keeps, all_of}
use Rattle.wire.proofs.Laws.{length-bytes, length-splice, less-or-not, true-not-false}
use Rattle.wire.proofs.Lists.{splice-next, length-items, all-at, keeps_fewer}
use Rattle.table.specs.Rows.{count_of, places, shaped, rows_of, round_of}
use Rattle.sweep.specs.Kept.{kept}
use Rattle.sweep.proofs.Laws.{Sweeping, sweep-row, kept-after}
use Rattle.room.specs.Numbers.{numbers_of, rounds_of, Put}
use Rattle.room.proofs.Laws.{length-numbers}
use Rattle.consensus.specs.Table.{Cert, cert_at, highest}
use Rattle.consensus.specs.Listing.{Fate, stays, goes, fate, raise, clear}
use Rattle.consensus.proofs.ClearOnce.{raise_all}
use Rattle.held.specs.Rows.{cert_of, origin_in, held_of, held_shape, lawful_row, lasts_of}
use Rattle.held.proofs.Laws.{lawful-shape, origin-below, digest-length, lawful, lawful-row}
use Rattle.update.specs.Update.{entry_of, entries_of, stays_row, Below}

-- ---- an entry

pub length-entry : (c : Cert) → length c.digest ≡ 32 → length (entry_of c) ≡ 37
unfolding entry_of
length-entry c h =
    let a = length-append (bytes 4 c.round) c.digest in
    let b = length-bytes 4 c.round in
    omega arith

module _ (t : List ℕ) (n i : ℕ) (s : held_shape n t ≡ true) (h : i < count_of t) where
  pub digest-long : (d : List ℕ) → d ≡ (cert_at (held_of t) i).digest → length d ≡ 32
  digest-long d e = ap length e ∙ digest-length t i (lawful-shape n t s) h

  module _ (list a b c d : List ℕ) (k o r : ℕ) (l : k * 37 + 37 ≤ length list) (eo : o ≡ (cert_at (held_of t) i).origin) (er : r ≡ (cert_at (held_of t) i).round) (ed : d ≡ (cert_at (held_of t) i).digest) where
    pub entry-put : a ≡ splice list (k * 37) (o ∷ []) → b ≡ splice a (k * 37 + 1) (bytes 4 r) → c ≡ splice b (k * 37 + 5) d
        → c ≡ splice list (k * 37) (entry_of (cert_at (held_of t) i))
    unfolding entry_of
    entry-put ea eb ec =
        let lb = length-bytes 4 r in
        let ld = digest-long d ed in
        let w : List ℕ = o ∷ bytes 4 r in
        let qb : b ≡ splice list (k * 37) w = eb ∙ ap (λ (v : List ℕ). splice v (k * 37 + 1) (bytes 4 r)) ea ∙ splice-next list (o ∷ []) (bytes 4 r) (k * 37) (k * 37 + 1) (omega arith) (omega arith) in
        let qc : c ≡ splice list (k * 37) (w ++ d) = ec ∙ ap (λ (v : List ℕ). splice v (k * 37 + 5) d) qb ∙ splice-next list w d (k * 37) (k * 37 + 5) (omega arith) (omega arith) in
        qc ∙ rw (eo, er, ed)

-- ---- a place

pub place-below : (xs : List ℕ) (m n k x : ℕ) → Below xs m n → k < m → x ≡ get_or xs k 0 → x < n
place-below xs m n k x b l e = rw e (b.each k l)

-- ---- the list

pub record Entering (t places list : List ℕ) (m at : ℕ) (out : List ℕ) (i : ℕ) : Type 0 where
  pub high : i ≤ m
  pub same : length out ≡ length list
  pub is : out ≡ splice list (at * 37) (entries_of (map (cert_at (held_of t)) (take i (numbers_of places))))

splice-none : (xs : List ℕ) (at : ℕ) → splice xs at [] ≡ xs
unfolding splice
splice-none xs at = rw add-zero (take-append-drop at xs)

map-append : (f : ℕ → Cert) (xs ys : List ℕ) → map f (xs ++ ys) ≡ map f xs ++ map f ys
map-append f [] ys = refl
map-append f (x ∷ xs) ys = ap (λ (v : List Cert). f x ∷ v) (map-append f xs ys)

entries-end : (cs : List Cert) (c : Cert) → entries_of (cs ++ (c ∷ [])) ≡ entries_of cs ++ entry_of c
unfolding entries_of flat
entries-end [] c = append-nil (entry_of c)
entries-end (x ∷ cs) c = ap (λ (v : List ℕ). entry_of x ++ v) (entries-end cs c) ∙ sym (append_assoc (entry_of x) (flat (map entry_of cs)) (entry_of c))

module _ (t places list : List ℕ) (n m at : ℕ) (s : held_shape n t ≡ true) (low : Below (numbers_of places) m (count_of t)) (lp : m * 8 ≤ length places) (fits : (at + m) * 37 ≤ length list) where
  pub entering-start : Entering t places list m at list 0
  unfolding entries_of flat
  entering-start = record { high = omega arith; same = refl; is = sym (splice-none list (at * 37)) }

  certs-next : (i i' : ℕ) → i' ≡ i + 1 → i < m → map (cert_at (held_of t)) (take i' (numbers_of places)) ≡ map (cert_at (held_of t)) (take i (numbers_of places)) ++ (cert_at (held_of t) (get_or (numbers_of places) i 0) ∷ [])
  certs-next i i' e h =
      let l = length-numbers places in
      let z : i' ≡ suc i = omega arith in
      ap (λ (k : ℕ). map (cert_at (held_of t)) (take k (numbers_of places))) z
      ∙ ap (map (cert_at (held_of t))) (take-suc (numbers_of places) i 0 (omega arith))
      ∙ map-append (cert_at (held_of t)) (take i (numbers_of places)) (get_or (numbers_of places) i 0 ∷ [])

  entries_next : (i i' : ℕ) → i' ≡ i + 1 → i < m → entries_of (map (cert_at (held_of t)) (take i' (numbers_of places))) ≡ entries_of (map (cert_at (held_of t)) (take i (numbers_of places))) ++ entry_of (cert_at (held_of t) (get_or (numbers_of places) i 0))
  entries_next i i' e h = ap entries_of (certs-next i i' e h) ∙ entries-end (map (cert_at (held_of t)) (take i (numbers_of places))) (cert_at (held_of t) (get_or (numbers_of places) i 0))

  entry-long : (i : ℕ) → i < m → length (entry_of (cert_at (held_of t) (get_or (numbers_of places) i 0))) ≡ 37
  entry-long i h = length-entry (cert_at (held_of t) (get_or (numbers_of places) i 0)) (digest-length t (get_or (numbers_of places) i 0) (lawful-shape n t s) (low.each i h))

  pub each-length : (i : ℕ) → i ≤ m → length (entries_of (map (cert_at (held_of t)) (take i (numbers_of places)))) ≡ i * 37
  unfolding entries_of flat
  each-length zero h = refl
  each-length (suc i) h =
      let a = each-length i (omega arith) in
      let b = entry-long i h in
      let c = length-append (entries_of (map (cert_at (held_of t)) (take i (numbers_of places)))) (entry_of (cert_at (held_of t) (get_or (numbers_of places) i 0))) in
      ap length (entries_next i (suc i) (omega arith) h) ∙ omega arith

  module _ (out : List ℕ) (i : ℕ) (e : Entering t places list m at out i) where
    pub entering-done : m ≤ i → out ≡ splice list (at * 37) (entries_of (map (cert_at (held_of t)) (take m (numbers_of places))))
    entering-done h =
        let a = e.high in
        let z : i ≡ m = omega arith in
        e.is ∙ ap (λ (k : ℕ). splice list (at * 37) (entries_of (map (cert_at (held_of t)) (take k (numbers_of places))))) z

    module _ (l : i < m) where
      pub entering-room : (at + i) * 37 + 37 ≤ length out
      entering-room = let z = e.same in omega arith

      pub entering-next : (x : ℕ) (after : List ℕ) → x ≡ get_or (numbers_of places) i 0 → after ≡ splice out ((at + i) * 37) (entry_of (cert_at (held_of t) x)) → Entering t places list m at after (i + 1)
      entering-next x after ex ea =
          let a = each-length i (omega arith) in
          let b = entry-long i l in
          let w : List ℕ = entries_of (map (cert_at (held_of t)) (take i (numbers_of places))) in
          let v : List ℕ = entry_of (cert_at (held_of t) (get_or (numbers_of places) i 0)) in
          let ez : after ≡ splice out ((at + i) * 37) v = ea ∙ ap (λ (k : ℕ). splice out ((at + i) * 37) (entry_of (cert_at (held_of t) k))) ex in
          let q : after ≡ splice list (at * 37) (w ++ v) =
          ez ∙ ap (λ (u : List ℕ). splice u ((at + i) * 37) v) e.is ∙ splice-next list w v (at * 37) ((at + i) * 37) (omega arith) (omega arith) in
          let c = length-append w v in
          record {
            high = omega arith;
            same = ap length q ∙ length-splice list (at * 37) (w ++ v) (omega arith);
            is = q ∙ ap (splice list (at * 37)) (sym (entries_next i (i + 1) refl l));
          }

-- ---- rounds raised

set_own : (xs : List ℕ) (i : ℕ) → set xs i (get_or xs i 0) ≡ xs
set_own [] i = refl
set_own (x ∷ xs) zero = refl
set_own (x ∷ xs) (suc i) = ap (λ (v : List ℕ). x ∷ v) (set_own xs i)

module _ (st t : List ℕ) (n i : ℕ) (s : held_shape n t ≡ true) (ls : length st ≡ n * 4) (h : i < count_of t) (o : ℕ) (eo : o ≡ (cert_at (held_of t) i).origin) where
  pub raise-fits : o * 4 + 4 ≤ length st
  raise-fits = let l = origin-below n t i s h in omega arith

  module _ (l r : ℕ) (el : l ≡ get_or (lasts_of st) o 0) (er : r ≡ (cert_at (held_of t) i).round) where
    pub raise-higher : (after : List ℕ) → l < r → Put rounds_of st o r after → lasts_of after ≡ raise (cert_at (held_of t) i) (lasts_of st)
    unfolding raise lasts_of
    raise-higher after q p =
        let z : max (get_or (rounds_of st) (cert_at (held_of t) i).origin 0) (cert_at (held_of t) i).round ≡ r = rw (← eo, ← er) (omega arith) in
        p.is ∙ rw (z, ← eo)

    pub raise-not : r ≤ l → lasts_of st ≡ raise (cert_at (held_of t) i) (lasts_of st)
    unfolding raise lasts_of
    raise-not q =
        let z : max (get_or (rounds_of st) (cert_at (held_of t) i).origin 0) (cert_at (held_of t) i).round ≡ get_or (rounds_of st) (cert_at (held_of t) i).origin 0 = rw (← eo, ← er) (omega arith) in
        sym (rw z (set_own (rounds_of st) (cert_at (held_of t) i).origin))

raise-end : (cs : List Cert) (c : Cert) (last : List ℕ) → raise_all (cs ++ (c ∷ [])) last ≡ raise c (raise_all cs last)
unfolding raise_all
raise-end [] c last = refl
raise-end (x ∷ cs) c last = raise-end cs c (raise x last)

pub record Raising (t places st : List ℕ) (n m : ℕ) (out : List ℕ) (i : ℕ) : Type 0 where
  pub high : i ≤ m
  pub same : length out ≡ n * 4
  pub is : lasts_of out ≡ raise_all (map (cert_at (held_of t)) (take i (numbers_of places))) (lasts_of st)

module _ (t places st : List ℕ) (n m : ℕ) (s : held_shape n t ≡ true) (ls : length st ≡ n * 4) (low : Below (numbers_of places) m (count_of t)) (lp : m * 8 ≤ length places) where
  pub raising-start : Raising t places st n m st 0
  unfolding raise_all
  raising-start = record { high = omega arith; same = ls; is = refl }

  module _ (out : List ℕ) (i : ℕ) (e : Raising t places st n m out i) where
    pub raising-done : m ≤ i → lasts_of out ≡ raise_all (map (cert_at (held_of t)) (take m (numbers_of places))) (lasts_of st)
    raising-done h =
        let a = e.high in
        let z : i ≡ m = omega arith in
        e.is ∙ ap (λ (k : ℕ). raise_all (map (cert_at (held_of t)) (take k (numbers_of places))) (lasts_of st)) z

    module _ (l : i < m) where
      pub raising-next : (x : ℕ) (after : List ℕ) → x ≡ get_or (numbers_of places) i 0 → length after ≡ length out → lasts_of after ≡ raise (cert_at (held_of t) x) (lasts_of out) → Raising t places st n m after (i + 1)
      raising-next x after ex ez ea =
          let k = length-numbers places in
          let q : map (cert_at (held_of t)) (take (i + 1) (numbers_of places)) ≡ map (cert_at (held_of t)) (take i (numbers_of places)) ++ (cert_at (held_of t) (get_or (numbers_of places) i 0) ∷ []) =
          ap (λ (j : ℕ). map (cert_at (held_of t)) (take j (numbers_of places))) (add-one i) ∙ ap (map (cert_at (held_of t))) (take-suc (numbers_of places) i 0 (omega arith)) ∙ map-append (cert_at (held_of t)) (take i (numbers_of places)) (get_or (numbers_of places) i 0 ∷ []) in
          record {
            high = omega arith;
            same = ez ∙ e.same;
            is =
                ea
                ∙ ap (λ (j : ℕ). raise (cert_at (held_of t) j) (lasts_of out)) ex
                ∙ ap (raise (cert_at (held_of t) (get_or (numbers_of places) i 0))) e.is
                ∙ sym (raise-end (map (cert_at (held_of t)) (take i (numbers_of places))) (cert_at (held_of t) (get_or (numbers_of places) i 0)) (lasts_of st))
                ∙ ap (λ (v : List Cert). raise_all v (lasts_of st)) (sym q);
          }

-- ---- rows kept

length-rows : (t : List ℕ) → length (rows_of 1062 t) ≡ count_of t
unfolding rows_of
length-rows t = length-items 1062 t 8 (count_of t)

module _ (row st : List ℕ) (depth top r o l : ℕ) (et : top ≡ highest (lasts_of st)) (er : r ≡ round_of row) (eo : o ≡ origin_in row) (el : l ≡ get_or (lasts_of st) o 0) where
  pub stays-later : r < l → false ≡ stays_row depth (lasts_of st) row
  unfolding stays_row fate cert_of
  stays-later h = let z : ltb (round_of row) (get_or (lasts_of st) (origin_in row) 0) ≡ true = lt-ltb (round_of row) (get_or (lasts_of st) (origin_in row) 0) (rw (← eo, ← er, ← el) h) in sym (rw (z, fate))

  pub stays-deep : l ≤ r → leb top (r + depth) ≡ stays_row depth (lasts_of st) row
  unfolding stays_row fate cert_of
  stays-deep h = go (less-or-not (r + depth) top)
    where
      z : ltb (round_of row) (get_or (lasts_of st) (origin_in row) 0) ≡ false
      z = le-ltb (round_of row) (get_or (lasts_of st) (origin_in row) 0) (rw (← eo, ← er, ← el) h)

      go : (r + depth < top) ⊎ (top ≤ r + depth) → leb top (r + depth) ≡ stays_row depth (lasts_of st) row
      go (inl q) =
          let y : ltb (round_of row + depth) (highest (lasts_of st)) ≡ true = lt-ltb (round_of row + depth) (highest (lasts_of st)) (rw (← er, ← et) q) in
          lt-leb top (r + depth) q ∙ sym (rw (z, y, fate))
      go (inr q) =
          let y : ltb (round_of row + depth) (highest (lasts_of st)) ≡ false = le-ltb (round_of row + depth) (highest (lasts_of st)) (rw (← er, ← et) q) in
          le-leb top (r + depth) q ∙ sym (rw (z, y, fate))

module _ (keep : List ℕ → Bool) (t₀ : List ℕ) (n : ℕ) (st : List ℕ) (k : ℕ) (t : List ℕ) (i m : ℕ) (sh : held_shape n t₀ ≡ true) (ls : length st ≡ n * 4) (s : Sweeping 1062 keep t₀ k t i m) (l : i < k) where
  pub clear-fits : (r : List ℕ) → r ≡ item_in 1062 t 8 i → origin_in r * 4 + 4 ≤ length st
  unfolding rows_of
  clear-fits r e =
      let g = lawful n t₀ sh in
      let a = s.all in
      let li : i < count_of t₀ = omega arith in
      let q : r ≡ get_or (rows_of 1062 t₀) i [] = e ∙ sweep-row 1062 keep t₀ t i m g.shape s.on li in
      let w = (lawful-row n (get_or (rows_of 1062 t₀) i []) (all-at (lawful_row n) (rows_of 1062 t₀) i g.each (rw (length-items 1062 t₀ 8 (count_of t₀)) li))).member in
      let z : origin_in r ≡ origin_in (get_or (rows_of 1062 t₀) i []) = ap origin_in q in
      omega arith

-- the table cleared is the definition's
clear-rows : (depth : ℕ) (last : List ℕ) (rs : List (List ℕ)) → map cert_of (keeps (stays_row depth last) rs) ≡ clear depth last (highest last) (map cert_of rs)
unfolding keeps clear stays_row
clear-rows depth last [] = refl
clear-rows depth last (r ∷ rs) = go (clear-rows depth last rs) (fate depth last (highest last) (cert_of r)) refl
  where
    go : map cert_of (keeps (stays_row depth last) rs) ≡ clear depth last (highest last) (map cert_of rs) → (f : Fate) → fate depth last (highest last) (cert_of r) ≡ f
        → map cert_of (keeps (stays_row depth last) (r ∷ rs)) ≡ clear depth last (highest last) (map cert_of (r ∷ rs))
    go ih stays q = rw (q, keeps, clear) (ap (λ (v : List Cert). cert_of r ∷ v) ih)
    go ih (goes w) q = rw (q, keeps, clear) ih

all-keeps : (test keep : List ℕ → Bool) (rs : List (List ℕ)) → all_of test rs ≡ true → all_of test (keeps keep rs) ≡ true
unfolding all_of keeps
all-keeps test keep [] h = h
all-keeps test keep (r ∷ rs) h = go (all-keeps test keep rs) (test r) refl (keep r) refl h
  where
    go : (all_of test rs ≡ true → all_of test (keeps keep rs) ≡ true) → (b : Bool) → test r ≡ b → (k : Bool) → keep r ≡ k → all_of test (r ∷ rs) ≡ true → all_of test (keeps keep (r ∷ rs)) ≡ true
    go ih true q true p e = rw (p, keeps) (rw (q, all_of) (ih (rw (q, all_of) at e)))
    go ih true q false p e = rw (p, keeps) (ih (rw (q, all_of) at e))
    go ih false q k p e = absurd (true-not-false (sym (rw (q, all_of) at e)))

pub record Cleared (n depth : ℕ) (last t u : List ℕ) : Type 0 where
  pub held : held_of u ≡ clear depth last (highest last) (held_of t)
  pub size : length u ≡ length t
  pub shape : held_shape n u ≡ true
  pub fewer : count_of u ≤ count_of t

pub cleared : (n depth : ℕ) (last t u : List ℕ) → held_shape n t ≡ true → length t < 256 ^ 8 → u ≡ kept 1062 (stays_row depth last) t → Cleared n depth last t u
unfolding held_of held_shape places
cleared n depth last t u s b e =
    let g = lawful n t s in
    let k = kept-after 1062 (stays_row depth last) t g.shape b in
    let er : rows_of 1062 u ≡ keeps (stays_row depth last) (rows_of 1062 t) = ap (rows_of 1062) e ∙ k.rows in
    let ez : length u ≡ length t = ap length e ∙ k.same in
    let es : shaped 1062 u ≡ true = ap (shaped 1062) e ∙ k.shape in
    let ep : ltb n ((length u - 8) / 1062) ≡ true = rw ez (lt-ltb n ((length t - 8) / 1062) g.more) in
    let ea : all_of (lawful_row n) (rows_of 1062 u) ≡ true = rw er (all-keeps (lawful_row n) (stays_row depth last) (rows_of 1062 t) g.each) in
    let ec : count_of u ≡ length (keeps (stays_row depth last) (rows_of 1062 t)) = ap count_of e ∙ k.count in
    let f = keeps_fewer (stays_row depth last) (rows_of 1062 t) in
    let lr : length (rows_of 1062 t) ≡ count_of t = length-rows t in
    record {
      held = ap (map cert_of) er ∙ clear-rows depth last (rows_of 1062 t);
      size = ez;
      shape = rw (es, ep, ea);
      fewer = omega arith;
    }
