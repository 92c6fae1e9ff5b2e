-- The front of a link test: its marks looked through place by place, and followed one round lower. Assumes nothing.
use mathlib.Core.Path.{◌≡◌, refl, sym, ap, ◌∙◌}
use mathlib.Core.Bool.{Bool, true, false, ◌&&◌, ◌||◌}
use mathlib.Core.List.{List, [], ◌∷◌}
use Prim.Native.Nat.{ℕ, suc, ◌+◌, ◌<◌}
use native.Mathlib.Omega.{arith}
use borrow.Author.Tests.{eq-eqb, ne_eqb}
use lib.Dec.{eqb}
use lib.ListN.{length, get_or}
use Rattle.std.specs.List.{list_any, range_with_len}
use Rattle.wire.specs.Bytes.{alike, part}
use Rattle.wire.proofs.Laws.{part-all}
use Rattle.table.specs.Rows.{count_of, shaped}
use Rattle.consensus.specs.Table.{Cert, cert_at}
use Rattle.consensus.specs.Leaders.{has_digest, is_in, named}
use Rattle.held.specs.Rows.{held_of}
use Rattle.held.proofs.Laws.{digest-length, length-held}
use Rattle.leaders.specs.Fronts.{front_of, is_front}

-- ---- one place

module _ (r m : ℕ) (c : Cert) where
  pub front-unmarked : m ≡ 0 → false ≡ is_front r m c
  unfolding is_front
  front-unmarked h = sym (rw (eq-eqb m 0 h))

  pub front-marked : (m ≡ 0 → ⊥) → (x : ℕ) → x ≡ c.round → eqb x r ≡ is_front r m c
  unfolding is_front
  front-marked h x e = sym (rw (ne_eqb m 0 h, ← e))

module _ (d : List ℕ) (r m : ℕ) (c : Cert) where
  pub has-is : (is_front r m c && alike c.digest d) ≡ has_digest d (front_of r (m ∷ []) (c ∷ []))
  unfolding front_of has_digest
  has-is = go (is_front r m c) refl (alike c.digest d) refl
    where
      go : (b : Bool) → is_front r m c ≡ b → (k : Bool) → alike c.digest d ≡ k → (is_front r m c && alike c.digest d) ≡ has_digest d (front_of r (m ∷ []) (c ∷ []))
      go true t true q = rw (t, front_of) (rw (q, has_digest))
      go true t false q = rw (t, front_of) (rw (q, has_digest))
      go false t k q = rw (t, front_of)

  pub names-is : (is_front r m c && is_in d c.parents) ≡ named d (front_of r (m ∷ []) (c ∷ []))
  unfolding front_of named
  names-is = go (is_front r m c) refl (is_in d c.parents) refl
    where
      go : (b : Bool) → is_front r m c ≡ b → (k : Bool) → is_in d c.parents ≡ k → (is_front r m c && is_in d c.parents) ≡ named d (front_of r (m ∷ []) (c ∷ []))
      go true t true q = rw (t, front_of) (rw (q, named))
      go true t false q = rw (t, front_of) (rw (q, named))
      go false t k q = rw (t, front_of)

-- ---- all places: a test P of the front, which holds where it holds of one of the front

front-one : (P : List Cert → Bool) → P [] ≡ false → ((c : Cert) (cs : List Cert) → P (c ∷ cs) ≡ (P (c ∷ []) || P cs)) → (r m : ℕ) (ms : List ℕ) (c : Cert) (cs : List Cert)
    → P (front_of r (m ∷ ms) (c ∷ cs)) ≡ (P (front_of r (m ∷ []) (c ∷ [])) || P (front_of r ms cs))
unfolding front_of
front-one P z s r m ms c cs = go (is_front r m c) refl
  where
    go : (b : Bool) → is_front r m c ≡ b → P (front_of r (m ∷ ms) (c ∷ cs)) ≡ (P (front_of r (m ∷ []) (c ∷ [])) || P (front_of r ms cs))
    go true t = rw (t, front_of) (s c (front_of r ms cs))
    go false t = rw (t, front_of) (sym (ap (λ (b : Bool). b || P (front_of r ms cs)) z))

-- a test of each place of the front, one after another
any_front : (P : List Cert → Bool) → P [] ≡ false → ((c : Cert) (cs : List Cert) → P (c ∷ cs) ≡ (P (c ∷ []) || P cs)) → (r : ℕ) (p : ℕ → Bool) (ms : List ℕ) (cs : List Cert) (i : ℕ) → length ms ≡ length cs
    → ((k j : ℕ) → j ≡ i + k → k < length ms → p j ≡ P (front_of r (get_or ms k 0 ∷ []) (cert_at cs k ∷ []))) → list_any p (range_with_len i (length ms)) ≡ P (front_of r ms cs)
unfolding front_of cert_at
any_front P z s r p [] cs i l e = sym z
any_front P z s r p (m ∷ ms) [] i l e = absurd (omega arith)
any_front P z s r p (m ∷ ms) (c ∷ cs) i l e =
    let n : (k j : ℕ) → j ≡ i + 1 + k → k < length ms → p j ≡ P (front_of r (get_or ms k 0 ∷ []) (cert_at cs k ∷ [])) = λ k j q h. e (suc k) j (omega arith) (omega arith) in
    let y : p i ≡ P (front_of r (m ∷ []) (c ∷ [])) = e 0 i (omega arith) (omega arith) in
    ap (λ b. b || list_any p (range_with_len (i + 1) (length ms))) y
    ∙ ap (λ b. P (front_of r (m ∷ []) (c ∷ [])) || b) (any_front P z s r p ms cs (i + 1) (omega arith) n)
    ∙ sym (front-one P z s r m ms c cs)

has_one : (d : List ℕ) (c : Cert) (cs : List Cert) → has_digest d (c ∷ cs) ≡ (has_digest d (c ∷ []) || has_digest d cs)
unfolding has_digest
has_one d c cs = go (alike c.digest d) refl
  where
    go : (b : Bool) → alike c.digest d ≡ b → has_digest d (c ∷ cs) ≡ (has_digest d (c ∷ []) || has_digest d cs)
    go true t = rw (t, has_digest)
    go false t = rw (t, has_digest)

named-one : (d : List ℕ) (c : Cert) (cs : List Cert) → named d (c ∷ cs) ≡ (named d (c ∷ []) || named d cs)
unfolding named
named-one d c cs = go (is_in d c.parents) refl
  where
    go : (b : Bool) → is_in d c.parents ≡ b → named d (c ∷ cs) ≡ (named d (c ∷ []) || named d cs)
    go true t = rw (t, named)
    go false t = rw (t, named)

-- what is asked of the place of a mark
abbrev pub has_at : List ℕ → List ℕ → List ℕ → ℕ → ℕ → Bool
has_at t marks d r i = is_front r (get_or marks i 0) (cert_at (held_of t) i) && alike (part (cert_at (held_of t) i).digest 0 32) (part d 0 32)

abbrev pub named_at : List ℕ → List ℕ → List ℕ → ℕ → ℕ → Bool
named_at t marks d r i = is_front r (get_or marks i 0) (cert_at (held_of t) i) && is_in d (cert_at (held_of t) i).parents

module _ (t marks d : List ℕ) (r : ℕ) (b : Bool) (e : length marks ≡ count_of t) where
  pub has-any : shaped 1062 t ≡ true → length d ≡ 32 → b ≡ list_any (has_at t marks d r) (range_with_len 0 (length marks)) → b ≡ has_digest d (front_of r marks (held_of t))
  unfolding has_digest
  has-any s ld f =
      f ∙ any_front (has_digest d) refl (has_one d) r (has_at t marks d r) marks (held_of t) 0 (e ∙ sym (length-held t))
      (λ k j q l.
      let z : j ≡ k = omega arith in
      let p : part (cert_at (held_of t) k).digest 0 32 ≡ (cert_at (held_of t) k).digest = part-all (cert_at (held_of t) k).digest 32 (digest-length t k s (omega arith)) in
      rw (z, p, part-all d 32 ld) (has-is d r (get_or marks k 0) (cert_at (held_of t) k)))

  pub named-any : b ≡ list_any (named_at t marks d r) (range_with_len 0 (length marks)) → b ≡ named d (front_of r marks (held_of t))
  unfolding named
  named-any f =
      f ∙ any_front (named d) refl (named-one d) r (named_at t marks d r) marks (held_of t) 0 (e ∙ sym (length-held t))
      (λ k j q l. let z : j ≡ k = omega arith in rw z (names-is d r (get_or marks k 0) (cert_at (held_of t) k)))
