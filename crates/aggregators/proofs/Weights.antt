-- The laws of `specs/Weight.antt` and `specs/Tallies.antt`. Assumes nothing.
use mathlib.Core.Path.{◌≡◌, refl, sym, ap, ◌∙◌}
use mathlib.Core.Bool.{Bool, true, false}
use mathlib.Core.List.{List, [], ◌∷◌, ◌++◌, append-nil}
use Prim.Native.Nat.{ℕ, suc, ◌+◌, ◌*◌, ◌≤◌, ◌<◌}
use native.Mathlib.Numerals.{add-one}
use native.Mathlib.Omega.{arith}
use lib.Dec.{leb}
use lib.ListN.{length, get_or, drop, drop_of_length-le, length-append}
use lib.Seq.{drop-cons, drop-append-le, append_snoc}
use borrow.Author.Tests.{le-leb, lt-leb, leb-false}
use Rattle.wire.specs.Items.{items, item_in, first_of, has_part, key_of, keys}
use Rattle.std.specs.Prelude.{Option, Some, None}
use Rattle.wire.proofs.Laws.{part-all}
use Rattle.wire.proofs.Lists.{Sized, none, one, item-fits, item-is, item-length, length-items}
use Rattle.config.specs.Members.{members_of}
use Rattle.config.specs.Committee.{total, quorum, stake_of, valid_members}
use Rattle.config.proofs.Laws.{valid-weight}
use Rattle.aggregators.specs.Weight.{quorum_in, stake_by, is_in, enough, weighed, weight_after, held, digest_of, gathered_after}
use Rattle.aggregators.specs.Tallies.{fresh, counted, tally_after, digests}
use Rattle.aggregators.specs.declared.tally.Tally.{Tally}

-- ---- whether a key is counted
module _ (key : List ℕ) (rs : List (List ℕ)) (f : Option ℕ) (e : f ≡ first_of (has_part 0 key) rs 0) where
  pub key_in : (i : ℕ) → f ≡ Some i → true ≡ is_in key rs
  unfolding is_in
  key_in i g = sym (rw (sym e ∙ g))

  pub key-out : f ≡ None → false ≡ is_in key rs
  unfolding is_in
  key-out g = sym (rw (sym e ∙ g))

-- ---- a stake more
module _ (q s next : ℕ) (t : Tally) where
  pub count-full : q ≤ t.weight + s → ◌≡◌ {A = Tally} (record { weight = 0; from = next }) (counted q s next t)
  unfolding counted enough
  count-full h = sym (rw (le-leb q (t.weight + s) h, counted))

  pub count-on : t.weight + s < q → ◌≡◌ {A = Tally} (record { weight = t.weight + s; from = t.from }) (counted q s next t)
  unfolding counted enough
  count-on h = sym (rw (lt-leb q (t.weight + s) h, counted))

-- ---- THE LOOP: the premises are what the callees ensure
pub record Weighing (ms : List ℕ) (q size : ℕ) (xs : List ℕ) (at n i : ℕ) (t : Tally) : Type 0 where
  pub high : i ≤ n
  pub fits : at + n * size ≤ length xs
  pub wide : 32 ≤ size
  pub threshold : q ≡ quorum (total (members_of ms))
  pub left : tally_after (quorum_in ms) (stake_by ms) (keys (items size xs at n)) 0 fresh ≡ tally_after (quorum_in ms) (stake_by ms) (keys (drop i (items size xs at n))) i t

pub weighing-start : (ms : List ℕ) (q size : ℕ) (xs : List ℕ) (at n : ℕ) → q ≡ quorum (total (members_of ms)) → at + n * size ≤ length xs → 32 ≤ size → Weighing ms q size xs at n 0 (record { weight = 0; from = 0 })
weighing-start ms q size xs at n a h w = record { high = omega arith; fits = h; wide = w; threshold = a; left = refl }

tally-on : (q : ℕ) (stake : List ℕ → ℕ) (rs : List (List ℕ)) (i i' : ℕ) (t : Tally) → i' ≡ i + 1 → i < length rs → tally_after q stake (keys (drop i rs)) i t ≡ tally_after q stake (keys (drop i' rs)) i' (counted q (stake (key_of (get_or rs i []))) i' t)
unfolding tally_after keys
tally-on q stake rs i i' t e h = rw (e, add-one, drop-cons rs i [] h)

module _ (ms : List ℕ) (q size : ℕ) (xs : List ℕ) (at n i : ℕ) (t : Tally) (s : Weighing ms q size xs at n i t) where
  pub weighing-done : n ≤ i → t ≡ tally_after (quorum_in ms) (stake_by ms) (keys (items size xs at n)) 0 fresh
  unfolding tally_after keys
  weighing-done l =
      sym (s.left ∙ ap (λ (z : List (List ℕ)). tally_after (quorum_in ms) (stake_by ms) (keys z) i t) (drop_of_length-le (items size xs at n) {i = i} (omega (arith, length-items size xs at n))))

  module _ (l : i < n) where
    pub weighing-fits : at + i * size + size ≤ length xs
    weighing-fits = item-fits size xs at n s.fits i l

    module _ (r : List ℕ) (e : r ≡ item_in size xs at i) where
      pub weighing-reach : 32 ≤ length r
      weighing-reach = omega (arith, ap length e, item-length size xs at n s.fits i l, s.wide)

      module _ (k : List ℕ) (f : k ≡ key_of r) where
        pub weighing-next : (w : ℕ) (u : Tally) → w ≡ stake_of (members_of ms) k → u ≡ counted q w (i + 1) t → Weighing ms q size xs at n (i + 1) u
        weighing-next w u g h =
            let m : stake_of (members_of ms) (key_of (get_or (items size xs at n) i [])) ≡ w = sym (g ∙ ap (stake_of (members_of ms)) (f ∙ ap key_of (e ∙ item-is size xs at n s.fits i l))) in
            let o = tally-on (quorum_in ms) (stake_by ms) (items size xs at n) i (i + 1) t refl (omega (arith, length-items size xs at n)) in
            record {
              high = omega arith;
              fits = s.fits;
              wide = s.wide;
              threshold = s.threshold;
              left = s.left ∙ o ∙ rw (m, ← s.threshold, ← h);
            }

-- ---- WHAT THE CODE KEEPS IS WHAT DOCUMENT 01 SAYS
pub digests-append : (xs ys : List (List ℕ)) → digests (xs ++ ys) ≡ digests xs ++ digests ys
unfolding digests
digests-append [] ys = refl
digests-append (x ∷ xs) ys = ap (λ (z : List (List ℕ)). digest_of x ∷ z) (digests-append xs ys)

pub length-digests : (ps : List (List ℕ)) → length (digests ps) ≡ length ps
unfolding digests
length-digests [] = refl
length-digests (p ∷ ps) = ap suc (length-digests ps)

counted-weight : (q s next : ℕ) (t : Tally) → (counted q s next t).weight ≡ weighed q t.weight s
unfolding counted weighed
counted-weight q s next t = go (enough q t.weight s) refl where
  go : (b : Bool) → enough q t.weight s ≡ b → (counted q s next t).weight ≡ weighed q t.weight s
  go true e = rw (e, counted, weighed)
  go false e = rw (e, counted, weighed)

pub weight_is : (q : ℕ) (stake : List ℕ → ℕ) (ks : List (List ℕ)) (i : ℕ) (t : Tally) → (tally_after q stake ks i t).weight ≡ weight_after q stake ks t.weight
unfolding tally_after weight_after
weight_is q stake [] i t = refl
weight_is q stake (k ∷ ks) i t = weight_is q stake ks (suc i) (counted q (stake k) (suc i) t) ∙ ap (weight_after q stake ks) (counted-weight q (stake k) (suc i) t)

-- the digests gathered are those from the place on: i keys, those of before, are counted already
counted-held : (q s : ℕ) (p : List ℕ) (before : List (List ℕ)) (i : ℕ) (t : Tally) → length before ≡ i → t.from ≤ i → digests (drop (counted q s (suc i) t).from (before ++ (p ∷ []))) ≡ held q t.weight s (digests (drop t.from before)) (digest_of p)
unfolding counted held digests
counted-held q s p before i t l h = go (enough q t.weight s) refl where
  all : drop (suc i) (before ++ (p ∷ [])) ≡ []
  all = drop_of_length-le (before ++ (p ∷ [])) {i = suc i} (omega (arith, length-append before (p ∷ [])))

  go : (b : Bool) → enough q t.weight s ≡ b → digests (drop (counted q s (suc i) t).from (before ++ (p ∷ []))) ≡ held q t.weight s (digests (drop t.from before)) (digest_of p)
  go true e = rw (e, counted, held, all)
  go false e = rw (e, counted, held, drop-append-le t.from before (p ∷ []) (omega arith), digests-append)

counted-from : (q s i : ℕ) (t : Tally) → t.from ≤ i → (counted q s (suc i) t).from ≤ suc i
unfolding counted
counted-from q s i t h = go (enough q t.weight s) refl where
  go : (b : Bool) → enough q t.weight s ≡ b → (counted q s (suc i) t).from ≤ suc i
  go true e = rw (e, counted) (omega arith)
  go false e = rw (e, counted) (omega arith)

gathered-go : (q : ℕ) (stake : List ℕ → ℕ) (ps before : List (List ℕ)) (i : ℕ) (t : Tally) → length before ≡ i → t.from ≤ i → digests (drop (tally_after q stake (keys ps) i t).from (before ++ ps)) ≡ gathered_after q stake ps t.weight (digests (drop t.from before))
unfolding tally_after gathered_after keys
gathered-go q stake [] before i t l h = rw append-nil
gathered-go q stake (p ∷ ps) before i t l h =
    let s = stake (key_of p) in
    let u = counted q s (suc i) t in
    let a = append_snoc before p ps in
    let r = gathered-go q stake ps (before ++ (p ∷ [])) (suc i) u (length-append before (p ∷ []) ∙ omega arith) (counted-from q s i t h) in
    rw (← a, ← counted-weight q s (suc i) t, ← counted-held q s p before i t l h) r

pub gathered-is : (q : ℕ) (stake : List ℕ → ℕ) (ps : List (List ℕ)) → digests (drop (tally_after q stake (keys ps) 0 fresh).from ps) ≡ gathered_after q stake ps 0 []
unfolding digests
gathered-is q stake ps = gathered-go q stake ps [] 0 fresh refl (omega arith)

-- the place is one of the keys, or the end
from-go : (q : ℕ) (stake : List ℕ → ℕ) (ks : List (List ℕ)) (i : ℕ) (t : Tally) → t.from ≤ i → (tally_after q stake ks i t).from ≤ i + length ks
unfolding tally_after
from-go q stake [] i t h = omega arith
from-go q stake (k ∷ ks) i t h = let r = from-go q stake ks (suc i) (counted q (stake k) (suc i) t) (counted-from q (stake k) i t h) in omega arith

pub from_is : (q : ℕ) (stake : List ℕ → ℕ) (ks : List (List ℕ)) → (tally_after q stake ks 0 fresh).from ≤ length ks
from_is q stake ks = let r = from-go q stake ks 0 fresh (omega arith) in omega arith

-- ---- the weight stays below quorum
weighed-below : (q w s : ℕ) → w < q → weighed q w s < q
unfolding weighed enough
weighed-below q w s h = go (leb q (w + s)) refl where
  go : (b : Bool) → leb q (w + s) ≡ b → weighed q w s < q
  go true e = rw (e, weighed) (omega arith)
  go false e = rw (e, weighed) (leb-false q (w + s) e)

weight-below : (q : ℕ) (stake : List ℕ → ℕ) (ks : List (List ℕ)) (w : ℕ) → w < q → weight_after q stake ks w < q
unfolding weight_after
weight-below q stake [] w h = h
weight-below q stake (k ∷ ks) w h = weight-below q stake ks (weighed q w (stake k)) (weighed-below q w (stake k) h)

pub weight-small : (ms : List ℕ) (ks : List (List ℕ)) → valid_members ms ≡ true → weight_after (quorum_in ms) (stake_by ms) ks 0 ≤ 4294967295
unfolding quorum
weight-small ms ks h =
    let l = weight-below (quorum_in ms) (stake_by ms) ks 0 (omega arith) in
    omega (arith, valid-weight ms (total (members_of ms)) h refl)

-- ---- quorum reached
pub enough-is : (ms key : List ℕ) (w q s : ℕ) → q ≡ quorum (total (members_of ms)) → s ≡ stake_of (members_of ms) key → leb q (w + s) ≡ enough (quorum_in ms) w (stake_by ms key)
unfolding enough
enough-is ms key w q s a b = rw (a, b)

-- ---- one key more, behind the others
pub weight-more : (q : ℕ) (stake : List ℕ → ℕ) (ks : List (List ℕ)) (k : List ℕ) (w : ℕ) → weight_after q stake (ks ++ (k ∷ [])) w ≡ weighed q (weight_after q stake ks w) (stake k)
unfolding weight_after
weight-more q stake [] k w = refl
weight-more q stake (x ∷ ks) k w = weight-more q stake ks k (weighed q w (stake x))

pub gathered-more : (q : ℕ) (stake : List ℕ → ℕ) (ps : List (List ℕ)) (p : List ℕ) (w : ℕ) (ds : List (List ℕ)) → gathered_after q stake (ps ++ (p ∷ [])) w ds ≡ held q (weight_after q stake (keys ps) w) (stake (key_of p)) (gathered_after q stake ps w ds) (digest_of p)
unfolding weight_after gathered_after keys
gathered-more q stake [] p w ds = refl
gathered-more q stake (x ∷ ps) p w ds = gathered-more q stake ps p (weighed q w (stake (key_of x))) (held q w (stake (key_of x)) ds (digest_of x))

pub keys-more : (rs : List (List ℕ)) (r : List ℕ) → keys (rs ++ (r ∷ [])) ≡ keys rs ++ (key_of r ∷ [])
unfolding keys
keys-more [] r = refl
keys-more (x ∷ rs) r = ap (λ (z : List (List ℕ)). key_of x ∷ z) (keys-more rs r)

-- items of 32 bytes are their keys
pub keys-same : (rs : List (List ℕ)) → Sized 32 rs → keys rs ≡ rs
unfolding keys key_of
keys-same [] none = refl
keys-same (r ∷ rs) (one e s) = rw (part-all r 32 e, keys-same rs s)
