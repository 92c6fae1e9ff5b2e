-- The laws of this crate's definitions, for the proofs of this crate and of the crates that link it. Assumes nothing.
use mathlib.Core.Path.{◌≡◌, refl, sym, ap, ◌∙◌}
use mathlib.Core.Bool.{Bool, true, false, not, and-false}
use mathlib.Core.List.{List}
use Prim.Native.Nat.{ℕ, ◌≤◌, ◌<◌}
use native.Mathlib.Omega.{arith}
use lib.Dec.{eqb, leb}
use lib.ListN.{length}
use borrow.Author.Tests.{eq-eqb, ne_eqb, eqb-true, le-leb, lt-leb, leb-true, not-true, not-false}
use Rattle.wire.specs.Items.{items, keys, ascends}
use Rattle.wire.proofs.Laws.{true-not-false}
use Rattle.messages.specs.Header.{round_of, parent_count, payload_count, parents_of, payload_of, lawful_round, header_shape}
use Rattle.messages.specs.Vote.{vote_round, vote_shape}
use Rattle.messages.specs.Certificate.{header_of, vote_count, certificate_shape}

-- ---- rounds
pub round-low : (r : ℕ) → r < 1 → false ≡ lawful_round r
unfolding lawful_round
round-low r h = rw (lt-leb 1 r h)

pub round-high : (r : ℕ) → 1 ≤ r → leb r 4294967295 ≡ lawful_round r
unfolding lawful_round
round-high r h = rw (le-leb 1 r h)

-- ---- a header's shape, test by test. The premises are what the tests say
module _ (h : List ℕ) where
  pub shape-long : (length h ≡ 3402 → ⊥) → false ≡ header_shape h
  unfolding header_shape
  shape-long e = rw (ne_eqb (length h) 3402 e)

  pub shape-round : (r : ℕ) (b : Bool) → r ≡ round_of h → b ≡ lawful_round r → not b ≡ true → false ≡ header_shape h
  unfolding header_shape
  shape-round r b e f g =
      let q : lawful_round (round_of h) ≡ false = ap lawful_round (sym e) ∙ sym f ∙ not-true b g in
      simp (q, and-false)

  pub shape-parents : (m : ℕ) → m ≡ parent_count h → 32 < m → false ≡ header_shape h
  unfolding header_shape
  shape-parents m e l =
      let q : leb (parent_count h) 32 ≡ false = lt-leb (parent_count h) 32 (omega arith) in
      simp (q, and-false)

  pub shape-payload : (k : ℕ) → k ≡ payload_count h → 64 < k → false ≡ header_shape h
  unfolding header_shape
  shape-payload k e l =
      let q : leb (payload_count h) 64 ≡ false = lt-leb (payload_count h) 64 (omega arith) in
      simp (q, and-false)

  pub shape-rising : (m : ℕ) (b : Bool) → m ≡ parent_count h → b ≡ ascends (keys (items 32 h 74 m)) → not b ≡ true → false ≡ header_shape h
  unfolding header_shape parents_of
  shape-rising m b e f g =
      let q : ascends (keys (items 32 h 74 (parent_count h))) ≡ false = ap (λ (z : ℕ). ascends (keys (items 32 h 74 z))) (sym e) ∙ sym f ∙ not-true b g in
      simp (q, and-false)

  pub shape-last : (r m k : ℕ) (b b' b'' : Bool) → length h ≡ 3402 → r ≡ round_of h → b ≡ lawful_round r → not b ≡ false → m ≡ parent_count h → m ≤ 32 → k ≡ payload_count h → k ≤ 64 → b' ≡ ascends (keys (items 32 h 74 m)) → not b' ≡ false → b'' ≡ ascends (keys (items 36 h 1098 k)) → b'' ≡ header_shape h
  unfolding header_shape parents_of payload_of
  shape-last r m k b b' b'' l er eb nb em lm ek lk eb' nb' eb'' =
      let q0 : eqb (length h) 3402 ≡ true = eq-eqb (length h) 3402 l in
      let q1 : lawful_round (round_of h) ≡ true = ap lawful_round (sym er) ∙ sym eb ∙ not-false b nb in
      let q2 : leb (parent_count h) 32 ≡ true = le-leb (parent_count h) 32 (omega arith) in
      let q3 : leb (payload_count h) 64 ≡ true = le-leb (payload_count h) 64 (omega arith) in
      let q4 : ascends (keys (items 32 h 74 (parent_count h))) ≡ true = ap (λ (z : ℕ). ascends (keys (items 32 h 74 z))) (sym em) ∙ sym eb' ∙ not-false b' nb' in
      let q5 : ascends (keys (items 36 h 1098 (payload_count h))) ≡ b'' = ap (λ (z : ℕ). ascends (keys (items 36 h 1098 z))) (sym ek) ∙ sym eb'' in
      sym (rw (q0, q1, q2, q3, q4) q5)

-- a test that fails where another does holds where that one does
pub holds : (x b : Bool) → (x ≡ false → b ≡ false) → b ≡ true → x ≡ true
holds true b f e = refl
holds false b f e = absurd (true-not-false (sym e ∙ f refl))

-- a shape that `new` refuses
pub not-shaped : (b : Bool) → (b ≡ true → false ≡ true) → b ≡ false
not-shaped true f = absurd (true-not-false (sym (f refl)))
not-shaped false f = refl

-- what a lawful shape says
module _ (h : List ℕ) (s : header_shape h ≡ true) where
  pub header-length : length h ≡ 3402
  unfolding header_shape
  header-length = eqb-true (length h) 3402 (holds (eqb (length h) 3402) (header_shape h) (λ q. simp (q, and-false)) s)

  pub header-round : lawful_round (round_of h) ≡ true
  unfolding header_shape
  header-round = holds (lawful_round (round_of h)) (header_shape h) (λ q. simp (q, and-false)) s

  pub header-parents : parent_count h ≤ 32
  unfolding header_shape
  header-parents = leb-true (parent_count h) 32 (holds (leb (parent_count h) 32) (header_shape h) (λ q. simp (q, and-false)) s)

  pub header-payload : payload_count h ≤ 64
  unfolding header_shape
  header-payload = leb-true (payload_count h) 64 (holds (leb (payload_count h) 64) (header_shape h) (λ q. simp (q, and-false)) s)

-- ---- a vote's
module _ (v : List ℕ) where
  pub vote-long : (length v ≡ 104 → ⊥) → false ≡ vote_shape v
  unfolding vote_shape
  vote-long e = rw (ne_eqb (length v) 104 e)

  pub vote-last : (r : ℕ) (b : Bool) → length v ≡ 104 → r ≡ vote_round v → b ≡ lawful_round r → b ≡ vote_shape v
  unfolding vote_shape
  vote-last r b l e f = f ∙ ap lawful_round e ∙ rw (eq-eqb (length v) 104 l)

  pub vote-length : vote_shape v ≡ true → length v ≡ 104
  unfolding vote_shape
  vote-length s = eqb-true (length v) 104 (holds (eqb (length v) 104) (vote_shape v) (λ q. simp (q, and-false)) s)

-- ---- a certificate's
module _ (c : List ℕ) where
  pub certificate-long : (length c ≡ 5483 → ⊥) → false ≡ certificate_shape c
  unfolding certificate_shape
  certificate-long e = rw (ne_eqb (length c) 5483 e)

  pub certificate-header : (h : List ℕ) (b : Bool) → h ≡ header_of c → b ≡ header_shape h → not b ≡ true → false ≡ certificate_shape c
  unfolding certificate_shape
  certificate-header h b e f g =
      let q : header_shape (header_of c) ≡ false = ap header_shape (sym e) ∙ sym f ∙ not-true b g in
      simp (q, and-false)

  pub certificate-last : (h : List ℕ) (b : Bool) (n : ℕ) → length c ≡ 5483 → h ≡ header_of c → b ≡ header_shape h → not b ≡ false → n ≡ vote_count c → leb n 64 ≡ certificate_shape c
  unfolding certificate_shape
  certificate-last h b n l e f g k =
      let q : header_shape (header_of c) ≡ true = ap header_shape (sym e) ∙ sym f ∙ not-false b g in
      rw (eq-eqb (length c) 5483 l, q, k)

  module _ (s : certificate_shape c ≡ true) where
    pub certificate-length : length c ≡ 5483
    unfolding certificate_shape
    certificate-length = eqb-true (length c) 5483 (holds (eqb (length c) 5483) (certificate_shape c) (λ q. simp (q, and-false)) s)

    pub certificate-headed : header_shape (header_of c) ≡ true
    unfolding certificate_shape
    certificate-headed = holds (header_shape (header_of c)) (certificate_shape c) (λ q. simp (q, and-false)) s

    pub certificate-votes : vote_count c ≤ 64
    unfolding certificate_shape
    certificate-votes = leb-true (vote_count c) 64 (holds (leb (vote_count c) 64) (certificate_shape c) (λ q. simp (q, and-false)) s)
