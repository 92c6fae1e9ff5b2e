-- A certificate put in the table: its row's bytes, and the table then. Assumes nothing.
use mathlib.Core.Path.{◌≡◌, refl, sym, ap, ◌∙◌}
use mathlib.Core.Bool.{Bool, true, false, ◌&&◌, ◌||◌}
use mathlib.Core.List.{List, [], ◌∷◌, ◌++◌, map, append_assoc, append-nil}
use mathlib.Core.Logic.{◌⊎◌, inl, inr}
use Prim.Native.Nat.{ℕ, zero, suc, ◌+◌, ◌-◌, ◌*◌, ◌/◌, ◌^◌, ◌≤◌, ◌<◌}
use native.Mathlib.Nat.{le_of_suc-le-suc, not-suc-le-zero}
use native.Mathlib.Omega.{arith}
use borrow.Author.Tests.{ne_eqb, lt-ltb, le-ltb, le-leb, ltb-true, ltb-false}
use lib.Dec.{eqb, ltb, leb}
use lib.ListN.{length, get_or, set, take, drop, replicate, length-append, length-replicate, length-take, length-drop, drop_of_length-le}
use lib.Seq.{drop_at, get_or-append-add}
use Rattle.wire.specs.Bytes.{part, word, bytes, splice}
use Rattle.wire.specs.Items.{chunks, items, flat, all_of}
use Rattle.wire.proofs.Laws.{length-bytes, word_bytes, true-not-false, less-or-not, put-mid}
use Rattle.wire.proofs.Lists.{Sized, length-flat, length-items, items-sized, splice-next, part-seam, chunks-flat, flat-chunks}
use Rattle.table.specs.Rows.{count_of, places, shaped, rows_of, round_of, with_row, appended}
use Rattle.table.proofs.Laws.{append-after, set_after, append-exit, set-exit, row_fits, append-room}
use Rattle.consensus.specs.Table.{Cert, pair_place, insert, same_pair, holds_pair}
use Rattle.consensus.proofs.Leading.{pair-most}
use Rattle.held.specs.Rows.{origin_in, parent_count, digest_in, parents_in, cert_of, held_of, lawful_row, held_shape, head_of, row_of, cert_with, table_with}
use Rattle.held.proofs.Laws.{length-held, lawful}

-- ---- the row's bytes

-- parents that stand one behind the other, and as a list
pub flat-parents : (ps : List ℕ) → length ps / 32 * 32 ≡ length ps → flat (items 32 ps 0 (length ps / 32)) ≡ ps
unfolding items
flat-parents ps h =
    let e : drop (length ps / 32 * 32) ps ≡ [] = drop_of_length-le ps {i = length ps / 32 * 32} (omega arith) in
    sym (append-nil (flat (chunks 32 ps (length ps / 32)))) ∙ ap (λ (v : List ℕ). flat (chunks 32 ps (length ps / 32)) ++ v) (sym e) ∙ flat-chunks 32 ps (length ps / 32)

splice-whole : (xs ys : List ℕ) → length xs ≡ length ys → splice xs 0 ys ≡ ys
unfolding splice
splice-whole xs ys e = rw (drop_of_length-le xs {i = 0 + length ys} (omega arith)) (append-nil ys)

length-head : (o r k : ℕ) (d : List ℕ) → length d ≡ 32 → length (head_of o r k d) ≡ 38
unfolding head_of
length-head o r k d h =
    let a = length-append (bytes 4 r) ((o ∷ k ∷ []) ++ d) in
    let b = length-bytes 4 r in
    a ∙ omega arith

module _ (row a b c e : List ℕ) (o r k : ℕ) (d : List ℕ) (lr : length row ≡ 1062) (ld : length d ≡ 32) where
  pub head-filled : a ≡ splice row 0 (bytes 4 r) → b ≡ splice a 4 (o ∷ []) → c ≡ splice b 5 (k ∷ []) → e ≡ splice c 6 d → e ≡ splice row 0 (head_of o r k d)
  unfolding head_of
  head-filled ea eb ec ee =
      let l4 : length (bytes 4 r) ≡ 4 = length-bytes 4 r in
      let w₁ : List ℕ = bytes 4 r ++ (o ∷ []) in
      let w₂ : List ℕ = w₁ ++ (k ∷ []) in
      let n₁ : length w₁ ≡ 5 = length-append (bytes 4 r) (o ∷ []) ∙ omega arith in
      let n₂ : length w₂ ≡ 6 = length-append w₁ (k ∷ []) ∙ omega arith in
      let qb : b ≡ splice row 0 w₁ = eb ∙ ap (λ (v : List ℕ). splice v 4 (o ∷ [])) ea ∙ splice-next row (bytes 4 r) (o ∷ []) 0 4 (omega arith) (omega arith) in
      let qc : c ≡ splice row 0 w₂ = ec ∙ ap (λ (v : List ℕ). splice v 5 (k ∷ [])) qb ∙ splice-next row w₁ (k ∷ []) 0 5 (omega arith) (omega arith) in
      let qe : e ≡ splice row 0 (w₂ ++ d) = ee ∙ ap (λ (v : List ℕ). splice v 6 d) qc ∙ splice-next row w₂ d 0 6 (omega arith) (omega arith) in
      qe ∙ ap (splice row 0) (simp append_assoc)

module _ (row a b c : List ℕ) (o r k : ℕ) (d ps : List ℕ) (lr : length row ≡ 1062) (ld : length d ≡ 32) (whole : length ps / 32 * 32 ≡ length ps) (few : length ps ≤ 1024) (ek : k ≡ length ps) where
  pub filled : a ≡ splice row 0 (head_of o r (k / 32) d) → b ≡ splice a 38 ps → c ≡ splice b (38 + k) (replicate (1024 - k) 0) → c ≡ row_of (cert_with o r d ps)
  unfolding row_of cert_with
  filled ea eb ec =
      let head : List ℕ = head_of o r (k / 32) d in
      let lh : length head ≡ 38 = length-head o r (k / 32) d ld in
      let z : List ℕ = replicate (1024 - k) 0 in
      let lz : length z ≡ 1024 - k = length-replicate {A = ℕ} (1024 - k) 0 in
      let w : List ℕ = head ++ ps in
      let n : length w ≡ 38 + k = length-append head ps ∙ omega arith in
      let m : length (w ++ z) ≡ 1062 = length-append w z ∙ omega arith in
      let qb : b ≡ splice row 0 w = eb ∙ ap (λ (v : List ℕ). splice v 38 ps) ea ∙ splice-next row head ps 0 38 (omega arith) (omega arith) in
      let qc : c ≡ splice row 0 (w ++ z) = ec ∙ ap (λ (v : List ℕ). splice v (38 + k) z) qb ∙ splice-next row w z 0 (38 + k) (omega arith) (omega arith) in
      let j : 1024 - length (items 32 ps 0 (length ps / 32)) * 32 ≡ 1024 - k = rw (length-items 32 ps 0 (length ps / 32)) (omega arith) in
      qc ∙ splice-whole row (w ++ z) (lr ∙ sym m) ∙ rw (flat-parents ps whole, j, length-items 32 ps 0 (length ps / 32), ← ek) (append_assoc head ps z)

-- ---- a row's certificate

same-cert : (c x : Cert) → c.origin ≡ x.origin → c.round ≡ x.round → c.digest ≡ x.digest → c.parents ≡ x.parents → c ≡ x
same-cert c x a b d e =
    let k : ◌≡◌ {A = Cert} (record { origin = c.origin; round = c.round; digest = c.digest; parents = c.parents }) (record { origin = x.origin; round = x.round; digest = x.digest; parents = x.parents }) =
    rw (a, b, d, e) in
    k

pub record Fitting (x : Cert) : Type 0 where
  pub digest : length x.digest ≡ 32
  pub parents : Sized 32 x.parents
  pub few : length x.parents ≤ 32

module _ (x : Cert) (f : Fitting x) where
  abbrev A : List ℕ
  A = bytes 4 x.round

  abbrev B : List ℕ
  B = x.origin ∷ length x.parents ∷ []

  abbrev Z : List ℕ
  Z = flat x.parents ++ replicate (1024 - length x.parents * 32) 0

  la : length A ≡ 4
  la = length-bytes 4 x.round

  lab : length (A ++ B) ≡ 6
  lab = length-append A B ∙ ap (λ (n : ℕ). n + 2) la

  labd : length (head_of x.origin x.round (length x.parents) x.digest) ≡ 38
  labd = length-head x.origin x.round (length x.parents) x.digest f.digest

  row-front : row_of x ≡ A ++ (B ++ (x.digest ++ Z))
  unfolding row_of head_of
  row-front = append_assoc A (B ++ x.digest) Z ∙ ap (λ (v : List ℕ). A ++ v) (append_assoc B x.digest Z)

  row-behind : row_of x ≡ (A ++ B) ++ (x.digest ++ Z)
  row-behind = row-front ∙ sym (append_assoc A B (x.digest ++ Z))

  row-end : row_of x ≡ head_of x.origin x.round (length x.parents) x.digest ++ Z
  unfolding row_of
  row-end = refl

  pub row-size : length (row_of x) ≡ 1062
  row-size =
      let n = f.few in
      let a = length-append (head_of x.origin x.round (length x.parents) x.digest) Z in
      let b = length-append (flat x.parents) (replicate (1024 - length x.parents * 32) 0) in
      let c = length-flat 32 x.parents f.parents in
      let d = length-replicate {A = ℕ} (1024 - length x.parents * 32) 0 in
      let e = labd in
      ap length row-end ∙ omega arith

  row-round : x.round < 256 ^ 4 → round_of (row_of x) ≡ x.round
  unfolding round_of
  row-round h = ap (λ (v : List ℕ). word (part v 0 4)) row-front ∙ ap word (part-seam [] A (B ++ (x.digest ++ Z)) 0 4 refl la) ∙ word_bytes 4 x.round h

  at-4 : (n i : ℕ) → i ≡ 4 + n → get_or (row_of x) i 0 ≡ get_or (B ++ (x.digest ++ Z)) n 0
  at-4 n i e =
      let z : i ≡ length A + n = let l = la in omega arith in
      ap (λ (v : ℕ). get_or (row_of x) v 0) z ∙ ap (λ (v : List ℕ). get_or v (length A + n) 0) row-front ∙ get_or-append-add A (B ++ (x.digest ++ Z)) n 0

  row-origin : origin_in (row_of x) ≡ x.origin
  unfolding origin_in
  row-origin = at-4 0 4 refl

  row_count : parent_count (row_of x) ≡ length x.parents
  unfolding parent_count
  row_count = at-4 1 5 refl

  row-digest : digest_in (row_of x) ≡ x.digest
  unfolding digest_in
  row-digest = ap (λ (v : List ℕ). part v 6 32) row-behind ∙ part-seam (A ++ B) x.digest Z 6 32 lab f.digest

  row-parents : parents_in (row_of x) ≡ x.parents
  unfolding parents_in items
  row-parents =
      ap (items 32 (row_of x) 38) row_count
      ∙ ap (λ (v : List ℕ). chunks 32 v (length x.parents)) (ap (drop 38) row-end ∙ drop_at (head_of x.origin x.round (length x.parents) x.digest) Z 38 labd)
      ∙ chunks-flat 32 x.parents (replicate (1024 - length x.parents * 32) 0) f.parents

  pub row-cert : x.round < 256 ^ 4 → cert_of (row_of x) ≡ x
  unfolding cert_of
  row-cert h = same-cert (cert_of (row_of x)) x row-origin (row-round h) row-digest row-parents

  pub row_lawful : (n : ℕ) → x.round < 256 ^ 4 → x.origin < n → (x.round ≡ 0 → ⊥) → lawful_row n (row_of x) ≡ true
  unfolding lawful_row
  row_lawful n b4 o h =
      let a : ltb (origin_in (row_of x)) n ≡ true = rw row-origin (lt-ltb x.origin n o) in
      let b : leb (parent_count (row_of x)) 32 ≡ true = rw row_count (le-leb (length x.parents) 32 f.few) in
      let c : eqb (round_of (row_of x)) 0 ≡ false = rw (row-round b4) (ne_eqb x.round 0 h) in
      rw (a, b, c)

-- what a caller's bytes give
pub certs-fit : (o r : ℕ) (d ps : List ℕ) → length d ≡ 32 → length ps / 32 * 32 ≡ length ps → length ps ≤ 1024 → Fitting (cert_with o r d ps)
unfolding cert_with
certs-fit o r d ps hd hw hf =
    record {
      digest = hd;
      parents = items-sized 32 ps 0 (length ps / 32) (omega arith);
      few = rw (length-items 32 ps 0 (length ps / 32)) (omega arith);
    }

-- ---- a row lent as a part of the table

module _ (t : List ℕ) (i : ℕ) (h : 8 + i * 1062 + 1062 ≤ length t) where
  gap : 8 + i * 1062 + 1062 - (8 + i * 1062) ≡ 1062
  gap = omega arith

  pub lent_length : length (take (8 + i * 1062 + 1062 - (8 + i * 1062)) (drop (8 + i * 1062) t)) ≡ 1062
  lent_length = simp (length-take, length-drop) (omega arith)

  pub lent_same : (w : List ℕ) → length w ≡ length (take (8 + i * 1062 + 1062 - (8 + i * 1062)) (drop (8 + i * 1062) t))
      → length (take (8 + i * 1062) t ++ (w ++ drop (8 + i * 1062 + 1062 - (8 + i * 1062)) (drop (8 + i * 1062) t))) ≡ length t
  lent_same w e = let g = e ∙ lent_length in simp (length-append, length-take, length-drop, length-drop) (omega arith)

  pub lent_back : (w : List ℕ) (o r : ℕ) (d ps : List ℕ) → length d ≡ 32 → length ps / 32 * 32 ≡ length ps → length ps ≤ 1024 → w ≡ row_of (cert_with o r d ps)
      → take (8 + i * 1062) t ++ (w ++ drop (8 + i * 1062 + 1062 - (8 + i * 1062)) (drop (8 + i * 1062) t)) ≡ splice t (8 + i * 1062) (row_of (cert_with o r d ps))
  lent_back w o r d ps ld lw lf e =
      rw (e, gap) (put-mid t (row_of (cert_with o r d ps)) (8 + i * 1062) 1062 (row-size (cert_with o r d ps) (certs-fit o r d ps ld lw lf)))

-- ---- the table then

suc-ltb : (a b : ℕ) → ltb a b ≡ ltb (suc a) (suc b)
suc-ltb a b = go (less-or-not a b)
  where
    go : (a < b) ⊎ (b ≤ a) → ltb a b ≡ ltb (suc a) (suc b)
    go (inl h) = lt-ltb a b h ∙ sym (lt-ltb (suc a) (suc b) (omega arith))
    go (inr h) = le-ltb a b h ∙ sym (le-ltb (suc a) (suc b) (omega arith))

pub holds-place : (x : Cert) (cs : List Cert) → holds_pair x cs ≡ ltb (pair_place x.origin x.round cs) (length cs)
unfolding holds_pair pair_place same_pair
holds-place x [] = refl
holds-place x (c ∷ cs) = go (holds-place x cs) (eqb c.origin x.origin && eqb c.round x.round) refl
  where
    go : holds_pair x cs ≡ ltb (pair_place x.origin x.round cs) (length cs) → (b : Bool) → (eqb c.origin x.origin && eqb c.round x.round) ≡ b
        → holds_pair x (c ∷ cs) ≡ ltb (pair_place x.origin x.round (c ∷ cs)) (length (c ∷ cs))
    go ih true q = rw (q, holds_pair, pair_place) (sym (lt-ltb 0 (suc (length cs)) (omega arith)))
    go ih false q = rw (q, holds_pair, pair_place) (ih ∙ suc-ltb (pair_place x.origin x.round cs) (length cs))

insert-over : (x : Cert) (cs : List Cert) → pair_place x.origin x.round cs < length cs → insert x cs ≡ set cs (pair_place x.origin x.round cs) x
unfolding insert pair_place same_pair
insert-over x [] h = absurd (not-suc-le-zero h)
insert-over x (c ∷ cs) h = go (insert-over x cs) (eqb c.origin x.origin && eqb c.round x.round) refl h
  where
    go : (pair_place x.origin x.round cs < length cs → insert x cs ≡ set cs (pair_place x.origin x.round cs) x) → (b : Bool) → (eqb c.origin x.origin && eqb c.round x.round) ≡ b
        → pair_place x.origin x.round (c ∷ cs) < length (c ∷ cs) → insert x (c ∷ cs) ≡ set (c ∷ cs) (pair_place x.origin x.round (c ∷ cs)) x
    go ih true q l = rw (q, insert, pair_place)
    go ih false q l = rw (q, insert, pair_place) (ap (λ (v : List Cert). c ∷ v) (ih (le_of_suc-le-suc (rw (q, pair_place) at l))))

insert-behind : (x : Cert) (cs : List Cert) → length cs ≤ pair_place x.origin x.round cs → insert x cs ≡ cs ++ (x ∷ [])
unfolding insert pair_place same_pair
insert-behind x [] h = refl
insert-behind x (c ∷ cs) h = go (insert-behind x cs) (eqb c.origin x.origin && eqb c.round x.round) refl h
  where
    go : (length cs ≤ pair_place x.origin x.round cs → insert x cs ≡ cs ++ (x ∷ [])) → (b : Bool) → (eqb c.origin x.origin && eqb c.round x.round) ≡ b
        → length (c ∷ cs) ≤ pair_place x.origin x.round (c ∷ cs) → insert x (c ∷ cs) ≡ (c ∷ cs) ++ (x ∷ [])
    go ih true q l = absurd (not-suc-le-zero (rw (q, pair_place) at l))
    go ih false q l = rw (q, insert, pair_place) (ap (λ (v : List Cert). c ∷ v) (ih (le_of_suc-le-suc (rw (q, pair_place) at l))))

map-set : (rs : List (List ℕ)) (i : ℕ) (row : List ℕ) → map cert_of (set rs i row) ≡ set (map cert_of rs) i (cert_of row)
map-set [] i row = refl
map-set (r ∷ rs) zero row = refl
map-set (r ∷ rs) (suc i) row = ap (λ (v : List Cert). cert_of r ∷ v) (map-set rs i row)

map-end : (rs : List (List ℕ)) (row : List ℕ) → map cert_of (rs ++ (row ∷ [])) ≡ map cert_of rs ++ (cert_of row ∷ [])
map-end [] row = refl
map-end (r ∷ rs) row = ap (λ (v : List Cert). cert_of r ∷ v) (map-end rs row)

all_set : (test : List ℕ → Bool) (rs : List (List ℕ)) (i : ℕ) (row : List ℕ) → all_of test rs ≡ true → test row ≡ true → all_of test (set rs i row) ≡ true
unfolding all_of
all_set test [] i row h e = h
all_set test (r ∷ rs) zero row h e = go (test r) refl h
  where
    go : (b : Bool) → test r ≡ b → all_of test (r ∷ rs) ≡ true → all_of test (row ∷ rs) ≡ true
    go true q h = rw (e, all_of) (rw (q, all_of) at h)
    go false q h = absurd (true-not-false (sym (rw (q, all_of) at h)))
all_set test (r ∷ rs) (suc i) row h e = go (λ z. all_set test rs i row z e) (test r) refl h
  where
    go : (all_of test rs ≡ true → all_of test (set rs i row) ≡ true) → (b : Bool) → test r ≡ b → all_of test (r ∷ rs) ≡ true → all_of test (r ∷ set rs i row) ≡ true
    go ih true q h = rw (q, all_of) (ih (rw (q, all_of) at h))
    go ih false q h = absurd (true-not-false (sym (rw (q, all_of) at h)))

all_end : (test : List ℕ → Bool) (rs : List (List ℕ)) (row : List ℕ) → all_of test rs ≡ true → test row ≡ true → all_of test (rs ++ (row ∷ [])) ≡ true
unfolding all_of
all_end test [] row h e = rw (e, all_of)
all_end test (r ∷ rs) row h e = go (λ z. all_end test rs row z e) (test r) refl h
  where
    go : (all_of test rs ≡ true → all_of test (rs ++ (row ∷ [])) ≡ true) → (b : Bool) → test r ≡ b → all_of test (r ∷ rs) ≡ true → all_of test (r ∷ (rs ++ (row ∷ []))) ≡ true
    go ih true q h = rw (q, all_of) (ih (rw (q, all_of) at h))
    go ih false q h = absurd (true-not-false (sym (rw (q, all_of) at h)))

-- what the table is, with a certificate put in
pub record With (n : ℕ) (x : Cert) (t u : List ℕ) : Type 0 where
  pub held : held_of u ≡ insert x (held_of t)
  pub size : length u ≡ length t
  pub shape : held_shape n u ≡ true

module _ (n : ℕ) (x : Cert) (t : List ℕ) (f : Fitting x) (b4 : x.round < 256 ^ 4) (ho : x.origin < n) (hr : x.round ≡ 0 → ⊥) (s : held_shape n t ≡ true) (small : length t < 256 ^ 8) where
  abbrev pub p : ℕ
  p = pair_place x.origin x.round (held_of t)

  same-places : (u : List ℕ) → length u ≡ length t → places 1062 u ≡ places 1062 t
  unfolding places
  same-places u e = ap (λ (v : ℕ). (v - 8) / 1062) e

  shape_of : (u : List ℕ) → length u ≡ length t → shaped 1062 u ≡ true → all_of (lawful_row n) (rows_of 1062 u) ≡ true → held_shape n u ≡ true
  unfolding held_shape
  shape_of u e a b =
      let l = lawful n t s in
      let c : ltb n (places 1062 u) ≡ true = rw (same-places u e) (lt-ltb n (places 1062 t) l.more) in
      rw (a, b, c)

  over : p < count_of t → With n x t (with_row 1062 t p (row_of x))
  unfolding held_of
  over h =
      let l = lawful n t s in
      let u = with_row 1062 t p (row_of x) in
      let q = set_after 1062 t p (row_of x) l.shape h (row-size x f) in
      let h' : p < length (held_of t) = rw (length-held t) h in
      record {
        held = ap (map cert_of) q.rows ∙ map-set (rows_of 1062 t) p (row_of x) ∙ ap (set (map cert_of (rows_of 1062 t)) p) (row-cert x f b4) ∙ sym (insert-over x (held_of t) h');
        size = q.same;
        shape = shape_of u q.same q.shape (rw q.rows (all_set (lawful_row n) (rows_of 1062 t) p (row_of x) l.each (row_lawful x f n b4 ho hr)));
      }

  behind : count_of t ≤ p → count_of t < places 1062 t → With n x t (appended 1062 t (row_of x))
  unfolding held_of
  behind h r =
      let l = lawful n t s in
      let u = appended 1062 t (row_of x) in
      let q = append-after 1062 t (row_of x) l.shape r (row-size x f) small in
      let h' : length (held_of t) ≤ p = rw (length-held t) h in
      record {
        held = ap (map cert_of) q.rows ∙ map-end (rows_of 1062 t) (row_of x) ∙ ap (λ (c : Cert). map cert_of (rows_of 1062 t) ++ (c ∷ [])) (row-cert x f b4) ∙ sym (insert-behind x (held_of t) h');
        size = q.same;
        shape = shape_of u q.same q.shape (rw q.rows (all_end (lawful_row n) (rows_of 1062 t) (row_of x) l.each (row_lawful x f n b4 ho hr)));
      }

  pub with-is : (ltb p (count_of t) || ltb (count_of t) (places 1062 t)) ≡ true → With n x t (table_with x t)
  unfolding table_with
  with-is r = go (ltb p (count_of t)) refl
    where
      go : (b : Bool) → ltb p (count_of t) ≡ b → With n x t (table_with x t)
      go true q = rw (q, table_with) (over (ltb-true p (count_of t) q))
      go false q = rw (q, table_with) (behind (ltb-false p (count_of t) q) (ltb-true (count_of t) (places 1062 t) (rw q at r)))

-- ---- the code's two ways

module _ (t : List ℕ) (i n : ℕ) (o r : ℕ) (d ps : List ℕ) (s : shaped 1062 t ≡ true) (en : n ≡ count_of t) (ei : i ≡ pair_place o r (held_of t))
    (ld : length d ≡ 32) (lw : length ps / 32 * 32 ≡ length ps) (lf : length ps ≤ 1024)
    (room : (ltb (pair_place o r (held_of t)) (count_of t) || ltb (count_of t) (places 1062 t)) ≡ true) where
  size : length (row_of (cert_with o r d ps)) ≡ 1062
  size = row-size (cert_with o r d ps) (certs-fit o r d ps ld lw lf)

  most : i ≤ count_of t
  most = let a = pair-most o r (held_of t) in let b = length-held t in omega arith

  pub put-fits : 8 + i * 1062 + 1062 ≤ length t
  put-fits = go (ltb (pair_place o r (held_of t)) (count_of t)) refl
    where
      go : (b : Bool) → ltb (pair_place o r (held_of t)) (count_of t) ≡ b → 8 + i * 1062 + 1062 ≤ length t
      go true q = let l = ltb-true (pair_place o r (held_of t)) (count_of t) q in row_fits 1062 t i s (omega arith)
      go false q =
          let l = ltb-false (pair_place o r (held_of t)) (count_of t) q in
          let m = most in
          let z : i ≡ count_of t = omega arith in
          let a = append-room 1062 t (row_of (cert_with o r d ps)) i s (ltb-true (count_of t) (places 1062 t) (rw q at room)) size z in
          let b = size in
          omega arith

  pub put-over : (u : List ℕ) → (i ≡ n → ⊥) → u ≡ splice t (8 + i * 1062) (row_of (cert_with o r d ps)) → u ≡ table_with (cert_with o r d ps) t
  unfolding table_with cert_with
  put-over u h e =
      let m = most in
      let l : i < count_of t = omega arith in
      let q : ltb (pair_place o r (held_of t)) (count_of t) ≡ true = lt-ltb (pair_place o r (held_of t)) (count_of t) (omega arith) in
      set-exit 1062 t i (row_of (cert_with o r d ps)) s l size u e ∙ rw (q, table_with, ei)

  pub put-behind : (u v : List ℕ) → i ≡ n → u ≡ splice t (8 + i * 1062) (row_of (cert_with o r d ps)) → v ≡ splice u 0 (bytes 8 (n + 1)) → v ≡ table_with (cert_with o r d ps) t
  unfolding table_with cert_with
  put-behind u v h e g =
      let q : ltb (pair_place o r (held_of t)) (count_of t) ≡ false = le-ltb (pair_place o r (held_of t)) (count_of t) (omega arith) in
      let k = ltb-true (count_of t) (places 1062 t) (rw q at room) in
      append-exit 1062 t (row_of (cert_with o r d ps)) n s k size en u v (e ∙ ap (λ (j : ℕ). splice t (8 + j * 1062) (row_of (cert_with o r d ps))) h) g ∙ rw (q, table_with)
