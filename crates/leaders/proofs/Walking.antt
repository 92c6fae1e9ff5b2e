-- The link test, one round at a time, and its first marks. Assumes nothing.
use mathlib.Core.Path.{◌≡◌, refl, sym, ap, subst, ◌∙◌}
use mathlib.Core.Bool.{Bool, false}
use mathlib.Core.List.{List, [], ◌∷◌, append-nil}
use Prim.Native.Nat.{ℕ, zero, suc, ◌+◌, ◌-◌, ◌≤◌, ◌<◌}
use native.Mathlib.Nat.{le_of_suc-le-suc, not-suc-le-zero}
use native.Mathlib.Omega.{arith}
use lib.ListN.{length, set, replicate, drop, length-replicate, length-set, drop_of_length-le}
use Rattle.wire.specs.Bytes.{splice}
use Rattle.table.specs.Rows.{count_of}
use Rattle.consensus.specs.Table.{Cert, cert_at, is_empty, of_round}
use Rattle.consensus.specs.Leaders.{followed, has_digest, link, linked}
use Rattle.consensus.proofs.Hole.{hole_in}
use Rattle.held.specs.Rows.{held_of}
use Rattle.held.proofs.Laws.{length-held}
use Rattle.leaders.specs.Fronts.{Follows, Unmarked, front_of}
use Rattle.leaders.proofs.Following.{front-clear, front-on, front-off}
use Rattle.leaders.proofs.Gaps.{whole-held, whole-lower}

-- ---- one round

pub linked-here : (held : List Cert) (upper lower : ℕ) (d marks : List ℕ) (b : Bool) → upper ≡ lower → b ≡ has_digest d (front_of lower marks held)
    → link b ≡ linked (upper - lower) lower d (front_of upper marks held) held
unfolding linked
linked-here held upper lower d marks b e f =
    let z : lower - lower ≡ 0 = omega arith in
    rw e (rw z (ap link f))

linked-at : (held : List Cert) (n m u lower : ℕ) (d : List ℕ) (front : List Cert) → m ≡ suc n → lower + n ≡ u → is_empty (of_round u held) ≡ false
    → linked m lower d front held ≡ linked n lower d (followed front (of_round u held)) held
unfolding linked
linked-at held n m u lower d front e f =
    subst (λ (k : ℕ). is_empty (of_round k held) ≡ false → linked m lower d front held ≡ linked n lower d (followed front (of_round k held)) held) f
    (λ t. rw (e, linked) (rw t))

linked-step : (held : List Cert) (upper lower : ℕ) (d : List ℕ) (front : List Cert) → lower < upper → is_empty (of_round (upper - 1) held) ≡ false
    → linked (upper - lower) lower d front held ≡ linked (upper - 1 - lower) lower d (followed front (of_round (upper - 1) held)) held
linked-step held upper lower d front h t = linked-at held (upper - 1 - lower) (upper - lower) (upper - 1) lower d front (omega arith) (omega arith) t

module _ (upper lower : ℕ) (le : lower ≤ upper) (ne : upper ≡ lower → ⊥) where
  above : lower < upper
  above = omega arith

  pub walk_up : 0 < upper
  walk_up = let a = above in omega arith

  pub walk-low : lower ≤ upper - 1
  walk-low = let a = above in omega arith

  pub walk-falls : (t : ℕ) → upper - lower ≡ t → upper - 1 - lower < t
  walk-falls t e = let a = above in omega arith

  module _ (held : List Cert) (w : hole_in (upper - lower) lower held ≡ false) where
    pub walk-whole : hole_in (upper - 1 - lower) lower held ≡ false
    walk-whole = sym (whole-lower held lower upper above (whole-held held lower upper above w)) ∙ w

    pub linked-lower : (d marks after : List ℕ) (b : Bool) → Follows held upper marks after → link b ≡ linked (upper - 1 - lower) lower d (front_of (upper - 1) after held) held
        → link b ≡ linked (upper - lower) lower d (front_of upper marks held) held
    linked-lower d marks after b f e =
        e
        ∙ ap (λ (v : List Cert). linked (upper - 1 - lower) lower d v held) f.front
        ∙ sym (linked-step held upper lower d (front_of upper marks held) above (whole-held held lower upper above w))

pub follow-size : (held : List Cert) (upper n : ℕ) (marks after : List ℕ) → Follows held upper marks after → length marks ≡ n → length after ≡ n
follow-size held upper n marks after f e = f.size ∙ e

-- ---- the first marks: the upper leader's place alone

clear-front : (q n : ℕ) (held : List Cert) → front_of q (replicate n 0) held ≡ []
unfolding front_of
clear-front q zero held = refl
clear-front q (suc n) [] = refl
clear-front q (suc n) (c ∷ cs) = rw (front-clear q c, front_of) (clear-front q n cs)

one-front : (q n i : ℕ) (held : List Cert) → i < n → i < length held → (cert_at held i).round ≡ q → front_of q (set (replicate n 0) i 1) held ≡ cert_at held i ∷ []
unfolding front_of cert_at
one-front q zero i held h l e = absurd (not-suc-le-zero h)
one-front q (suc n) i [] h l e = absurd (not-suc-le-zero l)
one-front q (suc n) zero (c ∷ cs) h l e = rw (front-on q c e, front_of) (ap (λ (v : List Cert). c ∷ v) (clear-front q n cs))
one-front q (suc n) (suc i) (c ∷ cs) h l e = rw (front-clear q c, front_of) (one-front q n i cs (le_of_suc-le-suc h) (le_of_suc-le-suc l) e)

one-other : (q n i : ℕ) (held : List Cert) → ((cert_at held i).round ≡ q → ⊥) → front_of q (set (replicate n 0) i 1) held ≡ []
unfolding front_of cert_at
one-other q zero i held e = refl
one-other q (suc n) zero [] e = refl
one-other q (suc n) (suc i) [] e = refl
one-other q (suc n) zero (c ∷ cs) e = rw (front-off q 1 c e, front_of) (clear-front q n cs)
one-other q (suc n) (suc i) (c ∷ cs) e = rw (front-clear q c, front_of) (one-other q n i cs e)

cleared : (marks zeros : List ℕ) (count : ℕ) → count ≡ length marks → zeros ≡ splice marks 0 (replicate count 0) → zeros ≡ replicate count 0
unfolding splice
cleared marks zeros count e f =
    let zs : List ℕ = replicate count 0 in
    let l : length zs ≡ count = length-replicate {A = ℕ} count 0 in
    let z : drop (0 + length zs) marks ≡ [] = drop_of_length-le marks {i = 0 + length zs} (omega arith) in
    f ∙ rw z (append-nil zs)

module _ (t marks zeros : List ℕ) (count from : ℕ) (s : length marks ≡ count_of t) (h : from < count_of t) (e : count ≡ length marks)
    (f : zeros ≡ splice marks 0 (replicate count 0)) where
  pub first_fits : from < length zeros
  first_fits = let z = ap length (cleared marks zeros count e f) in let l = length-replicate {A = ℕ} count 0 in omega arith

  pub first-size : length (set zeros from 1) ≡ count_of t
  first-size = let z = ap length (cleared marks zeros count e f) in let l = length-replicate {A = ℕ} count 0 in let k = length-set zeros from 1 in omega arith

  is : set zeros from 1 ≡ set (replicate count 0) from 1
  is = ap (λ (v : List ℕ). set v from 1) (cleared marks zeros count e f)

  module _ (upper : ℕ) (u : upper ≡ (cert_at (held_of t) from).round) where
    pub first-none : Unmarked upper (set zeros from 1) (held_of t)
    unfolding Unmarked
    first-none = λ r lt. ap (λ (v : List ℕ). front_of r v (held_of t)) is ∙ one-other r count from (held_of t) (λ z. omega arith)

    pub first-front : front_of upper (set zeros from 1) (held_of t) ≡ cert_at (held_of t) from ∷ []
    first-front =
        let l = length-held t in
        ap (λ (v : List ℕ). front_of upper v (held_of t)) is ∙ one-front upper count from (held_of t) (omega arith) (omega arith) (sym u)

    pub reaches-is : (to lower : ℕ) (d : List ℕ) (b : Bool) → lower ≡ (cert_at (held_of t) to).round → d ≡ (cert_at (held_of t) to).digest
        → link b ≡ linked (upper - lower) lower d (front_of upper (set zeros from 1) (held_of t)) (held_of t)
        → link b
        ≡ linked ((cert_at (held_of t) from).round - (cert_at (held_of t) to).round) (cert_at (held_of t) to).round (cert_at (held_of t) to).digest (cert_at (held_of t) from ∷ []) (held_of t)
    reaches-is to lower d b el ed g =
        g
        ∙ ap (λ (v : List Cert). linked (upper - lower) lower d v (held_of t)) first-front
        ∙ rw (← u, ← el, ← ed)

-- where two rounds are read off, what is said of them is said of what was read
module _ (held : List Cert) (from to upper lower : ℕ) (u : upper ≡ (cert_at held from).round) (l : lower ≡ (cert_at held to).round) where
  pub read_low : (cert_at held to).round ≤ (cert_at held from).round → lower ≤ upper
  read_low h = omega arith

  pub read_whole : hole_in ((cert_at held from).round - (cert_at held to).round) (cert_at held to).round held ≡ false → hole_in (upper - lower) lower held ≡ false
  read_whole h = rw (u, l) h

-- a mark between two calls that keep the length
pub kept-mark : (marks zeros after : List ℕ) (i : ℕ) → length after ≡ length (set zeros i 1) → length zeros ≡ length marks → length after ≡ length marks
kept-mark marks zeros after i e f = e ∙ length-set zeros i 1 ∙ f
