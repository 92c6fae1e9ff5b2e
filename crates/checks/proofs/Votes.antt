-- The laws of the votes' checks: the voters one at a time, then the quorum and the batch. Assumes nothing.
use mathlib.Core.Path.{◌≡◌, refl, sym, ap, ◌∙◌}
use mathlib.Core.Bool.{Bool, true, false, not}
use mathlib.Core.List.{List, [], ◌∷◌, ◌++◌}
use Prim.Native.Nat.{ℕ, zero, suc, ◌+◌, ◌*◌, ◌≤◌, ◌<◌}
use native.Mathlib.Numerals.{add-one}
use native.Mathlib.Nat.{zero-mul, suc-mul}
use native.Mathlib.Omega.{arith}
use lib.ListN.{length, take, drop, drop_of_length-le}
use lib.Seq.{drop-cons, drop-drop}
use borrow.Author.Tests.{le-leb, lt-leb, not-true, not-false}
use Rattle.wire.specs.Bytes.{part}
use Rattle.wire.specs.Items.{chunks, items, item_in, first_of, has_part}
use Rattle.std.specs.Prelude.{Option, Some, None}
use Rattle.wire.proofs.Lists.{item-is, item-fits, item-length, length-items}
use Rattle.config.specs.Committee.{total, quorum, stake_of}
use Rattle.messages.specs.Certificate.{vote_count, voters_of, certificate_shape}
use Rattle.messages.proofs.Laws.{certificate-length, certificate-votes}
use Rattle.checks.specs.Answers.{ensure}
use Rattle.checks.specs.Certificate.{among, weighed, votes_checks}
use Rattle.refusal.specs.Answers.{Answer}
use Rattle.refusal.specs.declared.Refusal.{Refusal}
use Rattle.std.specs.Prelude.{Ok, Err}
use Rattle.refusal.specs.declared.Refusal.TheVariants.{UnknownAuthority, InvalidSignature, AuthorityReuse, CertificateRequiresQuorum}
use Rattle.checks.proofs.Laws.{stake-none, stake-some}

-- ---- the voters, one at a time
chunks-more : (size : ℕ) (xs : List ℕ) (n : ℕ) → chunks size xs (suc n) ≡ chunks size xs n ++ (part xs (n * size) size ∷ [])
unfolding chunks part
chunks-more size xs zero = rw zero-mul
chunks-more size xs (suc n) =
    let q : suc n * size ≡ size + n * size = omega (arith, suc-mul n size) in
    let e : part xs (suc n * size) size ≡ part (drop size xs) (n * size) size = rw (part, q, drop-drop) in
    ap (λ (z : List (List ℕ)). take size xs ∷ z) (chunks-more size (drop size xs) n ∙ rw e)

items_more : (size : ℕ) (xs : List ℕ) (at i : ℕ) → items size xs at (i + 1) ≡ items size xs at i ++ (item_in size xs at i ∷ [])
unfolding items item_in part
items_more size xs at i =
    let e : part (drop at xs) (i * size) size ≡ part xs (at + i * size) size = rw (part, drop-drop) in
    rw (add-one, chunks-more size (drop at xs) i, e)

pub record Weighing (ms : List (List ℕ)) (c : List ℕ) (n weight i : ℕ) : Type 0 where
  pub high : i ≤ n
  pub few : n ≤ 64
  pub fits : 3435 + n * 32 ≤ length c
  pub left : weighed ms [] 0 (items 32 c 3435 n) ≡ weighed ms (items 32 c 3435 i) weight (drop i (items 32 c 3435 n))

pub weighing-start : (ms : List (List ℕ)) (c : List ℕ) (n : ℕ) → certificate_shape c ≡ true → n ≡ vote_count c → Weighing ms c n 0 0
unfolding items chunks
weighing-start ms c n s e = record { high = omega arith; few = omega (arith, certificate-votes c s); fits = omega (arith, certificate-length c s, certificate-votes c s); left = refl }

module _ (ms : List (List ℕ)) (c : List ℕ) (n weight i : ℕ) (s : Weighing ms c n weight i) where
  pub weighing-done : n ≡ vote_count c → n ≤ i → Ok weight ≡ weighed ms [] 0 (voters_of c)
  unfolding voters_of weighed
  weighing-done e l =
      let z : drop i (items 32 c 3435 n) ≡ [] = drop_of_length-le (items 32 c 3435 n) {i = i} (omega (arith, length-items 32 c 3435 n)) in
      sym (rw (← e) (s.left ∙ rw (z, weighed)))

  module _ (l : i < n) where
    pub weighing-fits : 3435 + i * 32 + 32 ≤ length c
    weighing-fits = item-fits 32 c 3435 n s.fits i l

    pub weighing-before : 3435 + i * 32 ≤ length c
    weighing-before = omega (arith, s.fits)

    module _ (v : List ℕ) (q : v ≡ item_in 32 c 3435 i) where
      pub weighing-key : length v ≡ 32
      weighing-key = ap length q ∙ item-length 32 c 3435 n s.fits i l

      pub weighing-whole : 0 + length v ≤ 32
      weighing-whole = omega (arith, weighing-key)

      next : drop i (items 32 c 3435 n) ≡ v ∷ drop (i + 1) (items 32 c 3435 n)
      next =
          drop-cons (items 32 c 3435 n) i [] (omega (arith, length-items 32 c 3435 n))
          ∙ rw (← item-is 32 c 3435 n s.fits i l, ← q, add-one)

      module _ (f : Option ℕ) (ef : f ≡ first_of (has_part 0 v) (items 32 c 3435 i) 0) where
        pub weighing-reused : n ≡ vote_count c → (j : ℕ) → f ≡ Some j → Err AuthorityReuse ≡ weighed ms [] 0 (voters_of c)
        unfolding voters_of weighed among
        weighing-reused e j g = sym (rw (← e) (s.left ∙ rw (next, sym ef ∙ g, weighed)))

        module _ (g : f ≡ None) (w : ℕ) (ew : w ≡ stake_of ms v) where
          pub weighing-unknown : n ≡ vote_count c → w ≡ 0 → Err UnknownAuthority ≡ weighed ms [] 0 (voters_of c)
          unfolding voters_of weighed among
          weighing-unknown e z = sym (rw (← e) (s.left ∙ rw (next, sym ef ∙ g, weighed, stake-none ms v v w refl ew z, weighed)))

          pub weighing-next : (w ≡ 0 → ⊥) → Weighing ms c n (weight + w) (i + 1)
          unfolding weighed among
          weighing-next z =
              let m : items 32 c 3435 (i + 1) ≡ items 32 c 3435 i ++ (v ∷ []) = items_more 32 c 3435 i ∙ rw q in
              record {
                high = omega arith;
                few = s.few;
                fits = s.fits;
                left = s.left ∙ rw (next, sym ef ∙ g, weighed, stake-some ms v v w refl ew z, weighed, m, ew);
              }

-- ---- then the quorum and the batch
module _ (ms : List (List ℕ)) (c : List ℕ) (batch_ok : Bool) (x : Answer) (e : x ≡ weighed ms [] 0 (voters_of c)) where
  pub votes_wrong : (r : Refusal) → x ≡ Err r → Err r ≡ votes_checks ms c batch_ok
  unfolding votes_checks
  votes_wrong r g = sym (rw (sym e ∙ g, votes_checks))

  module _ (w q : ℕ) (g : x ≡ Ok w) (eq : q ≡ quorum (total ms)) where
    pub votes-few : w < q → (Err CertificateRequiresQuorum) ≡ votes_checks ms c batch_ok
    unfolding votes_checks ensure
    votes-few l = sym (rw (sym e ∙ g, votes_checks, ← eq, lt-leb q w l))

    module _ (l : q ≤ w) where
      pub votes-unsigned : not batch_ok ≡ true → (Err InvalidSignature) ≡ votes_checks ms c batch_ok
      unfolding votes_checks ensure
      votes-unsigned n = sym (rw (sym e ∙ g, votes_checks, ← eq, le-leb q w l, not-true batch_ok n))

      pub votes-good : not batch_ok ≡ false → Ok 0 ≡ votes_checks ms c batch_ok
      unfolding votes_checks ensure
      votes-good n = sym (rw (sym e ∙ g, votes_checks, ← eq, le-leb q w l, not-false batch_ok n))
