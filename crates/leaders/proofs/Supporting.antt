-- The sum of the stake behind a leader, which stops at validity. Assumes nothing.
use mathlib.Core.Path.{◌≡◌, refl, sym, ap, ◌∙◌}
use mathlib.Core.Bool.{Bool, true, false, not}
use mathlib.Core.List.{List, [], ◌∷◌}
use Prim.Native.Nat.{ℕ, ◌+◌, ◌-◌, ◌/◌, ◌≤◌, ◌<◌}
use native.Mathlib.Nat.{add-zero}
use native.Mathlib.Omega.{arith}
use borrow.Author.Tests.{eq-eqb, ne_eqb, le-leb, lt-leb, leb-true, not-true, not-false}
use lib.Dec.{eqb, leb}
use lib.ListN.{length, get_or, drop}
use Rattle.wire.specs.Items.{all_of, sum_of}
use Rattle.wire.proofs.Lists.{all-at}
use Rattle.table.specs.Rows.{count_of}
use Rattle.config.specs.Members.{members_of, stake_in, worker_count, lawful}
use Rattle.config.specs.Committee.{valid_members, valid_setup, validity, total}
use Rattle.config.proofs.Laws.{both, length-members, valid, valid-setup}
use Rattle.consensus.specs.Table.{Cert, cert_at, of_round}
use Rattle.consensus.specs.Leaders.{is_in, stake_naming, total_stake}
use Rattle.held.specs.Rows.{held_of, held_shape}
use Rattle.held.proofs.Laws.{held-end, held-step, origin-below}
use Rattle.leaders.specs.Setup.{agreed_of}
use Rattle.leaders.proofs.Agreeing.{agreed-total}

-- ---- one certificate's stake

module _ (ss d : List ℕ) (r : ℕ) (c : Cert) (x : ℕ) (e : x ≡ c.round) where
  pub naming-other : (x ≡ r → ⊥) → 0 ≡ stake_naming ss d (of_round r (c ∷ []))
  unfolding of_round stake_naming
  naming-other h = rw (ne_eqb c.round r (λ z. h (e ∙ z)), of_round)

  module _ (h : x ≡ r) (b : Bool) (f : b ≡ is_in d c.parents) where
    pub naming-not : not b ≡ true → 0 ≡ stake_naming ss d (of_round r (c ∷ []))
    unfolding of_round stake_naming
    naming-not g =
        let t : is_in d c.parents ≡ false = sym f ∙ not-true b g in
        rw (eq-eqb c.round r (sym e ∙ h), of_round) (rw (t, stake_naming))

    pub naming-yes : not b ≡ false → (o y : ℕ) → o ≡ c.origin → y ≡ get_or ss o 0 → y ≡ stake_naming ss d (of_round r (c ∷ []))
    unfolding of_round stake_naming
    naming-yes g o y p q =
        let t : is_in d c.parents ≡ true = sym f ∙ not-false b g in
        rw (eq-eqb c.round r (sym e ∙ h), of_round) (rw (t, stake_naming) (q ∙ ap (λ (k : ℕ). get_or ss k 0) p ∙ sym (add-zero (get_or ss c.origin 0))))

naming-cons : (ss d : List ℕ) (r : ℕ) (c : Cert) (cs : List Cert)
    → stake_naming ss d (of_round r (c ∷ cs)) ≡ stake_naming ss d (of_round r (c ∷ [])) + stake_naming ss d (of_round r cs)
unfolding of_round stake_naming
naming-cons ss d r c cs = go (eqb c.round r) refl (is_in d c.parents) refl
  where
    go : (b : Bool) → eqb c.round r ≡ b → (n : Bool) → is_in d c.parents ≡ n
        → stake_naming ss d (of_round r (c ∷ cs)) ≡ stake_naming ss d (of_round r (c ∷ [])) + stake_naming ss d (of_round r cs)
    go true t true u = rw (t, of_round) (rw (u, stake_naming) (omega arith))
    go true t false u = rw (t, of_round) (rw (u, stake_naming) (omega arith))
    go false t n u = rw (t, of_round) (omega arith)

-- the origin is a member
pub member_below : (s t : List ℕ) (n i o : ℕ) → held_shape n t ≡ true → n ≡ (length s - 8) / 69 → i < count_of t → o ≡ (cert_at (held_of t) i).origin → o < (length s - 8) / 69
member_below s t n i o h m l e = rw (e, ← m) (origin-below n t i h l)

-- ---- validity is not 0: each member has stake

sum-some : (rs : List (List ℕ)) → all_of lawful rs ≡ true → 1 ≤ length rs → 1 ≤ sum_of stake_in rs
unfolding sum_of lawful
sum-some [] e h = absurd (omega arith)
sum-some (m ∷ ms) e h =
    let t = (both (leb 1 (stake_in m)) (leb (worker_count m) 8) (all-at lawful (m ∷ ms) 0 e (omega arith))).0 in
    let l = leb-true 1 (stake_in m) t in
    omega arith

total-some : (ms : List ℕ) → valid_members ms ≡ true → 1 ≤ total (members_of ms)
unfolding total
total-some ms v = let w = valid ms v in let o = w.one in let l = length-members ms in sum-some (members_of ms) w.each (omega arith)

-- ---- the sum

pub record Summing (s t d : List ℕ) (r need count sum i : ℕ) : Type 0 where
  pub is : need ≡ validity (total_stake (agreed_of s).stakes)
  pub all : count ≡ count_of t
  pub few : need ≤ 16777216
  pub under : sum < need
  pub left : stake_naming (agreed_of s).stakes d (of_round r (held_of t)) ≡ sum + stake_naming (agreed_of s).stakes d (of_round r (drop i (held_of t)))

pub summing_start : (s t d ms : List ℕ) (r need count : ℕ) → valid_setup s ≡ true → ms ≡ drop 8 s → need ≡ validity (total (members_of ms)) → count ≡ count_of t
    → Summing s t d r need count 0 0
unfolding validity
summing_start s t d ms r need count v e f g =
    let w = (valid (drop 8 s) (valid-setup s v).members).weight in
    let o = total-some (drop 8 s) (valid-setup s v).members in
    let p : need ≡ validity (total (members_of (drop 8 s))) = f ∙ ap (λ (m : List ℕ). validity (total (members_of m))) e in
    record { is = p ∙ ap validity (sym (agreed-total s)); all = g; few = omega arith; under = omega arith; left = omega arith }

module _ (s t d : List ℕ) (r need count sum i : ℕ) (S : Summing s t d r need count sum i) where
  pub summing-done : count ≤ i → false ≡ leb (validity (total_stake (agreed_of s).stakes)) (stake_naming (agreed_of s).stakes d (of_round r (held_of t)))
  unfolding of_round stake_naming
  summing-done h =
      let a = S.all in
      let n = S.is in
      let u = S.under in
      let z : stake_naming (agreed_of s).stakes d (of_round r (drop i (held_of t))) ≡ 0 = rw (held-end t i (omega arith)) in
      let l = S.left in
      sym (lt-leb (validity (total_stake (agreed_of s).stakes)) (stake_naming (agreed_of s).stakes d (of_round r (held_of t))) (omega arith))

  module _ (h : i < count) where
    pub summing-below : i < count_of t
    summing-below = let a = S.all in omega arith

    module _ (x : ℕ) (e : x ≡ stake_naming (agreed_of s).stakes d (of_round r (cert_at (held_of t) i ∷ []))) where
      on : stake_naming (agreed_of s).stakes d (of_round r (held_of t)) ≡ sum + x + stake_naming (agreed_of s).stakes d (of_round r (drop (i + 1) (held_of t)))
      on =
          let l = S.left in
          let c = naming-cons (agreed_of s).stakes d r (cert_at (held_of t) i) (drop (i + 1) (held_of t)) in
          let p = ap (λ (cs : List Cert). stake_naming (agreed_of s).stakes d (of_round r cs)) (held-step t i summing-below) in
          omega arith

      pub summing-hit : need ≤ sum + x → true ≡ leb (validity (total_stake (agreed_of s).stakes)) (stake_naming (agreed_of s).stakes d (of_round r (held_of t)))
      summing-hit g =
          let a = S.is in
          let b = on in
          sym (le-leb (validity (total_stake (agreed_of s).stakes)) (stake_naming (agreed_of s).stakes d (of_round r (held_of t))) (omega arith))

      pub summing-next : sum + x < need → Summing s t d r need count (sum + x) (i + 1)
      summing-next g = record { is = S.is; all = S.all; few = S.few; under = g; left = on }
