-- What it says that a place holds a leader that opens a commit. Assumes nothing.
use mathlib.Core.Path.{◌≡◌, refl, sym, ap, subst, ◌∙◌}
use mathlib.Core.Bool.{false}
use mathlib.Core.List.{List, [], ◌∷◌, map, reverse}
use Prim.Native.Nat.{ℕ, suc, ◌+◌, ◌-◌, ◌%◌, ◌≤◌, ◌<◌}
use native.Mathlib.Omega.{arith}
use lib.ListN.{length, take}
use Rattle.consensus.specs.Table.{Cert, cert_at, highest, pair_place}
use Rattle.consensus.specs.Leaders as ordering
use Rattle.consensus.specs.Leaders.{Agreed, decide, leader, leaders, leaders_from, missing, opens, present, quiet}
use Rattle.consensus.specs.Candidates.{edition1}
use Rattle.consensus.proofs.Hole.{hole_in}
use Rattle.consensus.proofs.Leading.{leader-place, leader-cert, pair-round}
use Rattle.consensus.proofs.Settling.{Opening, lowest_round, opening, opens-whole}
use Rattle.config.specs.Committee.{leader_place}
use Rattle.room.specs.Numbers.{rounds_of}
use Rattle.leaders.specs.Setup.{kind_of}
use Rattle.leaders.specs.Taking.{Opener, Taken, leader_at, leader_in}
use Rattle.std.specs.Prelude.{Ok, true}

opens-is : (d : ordering.Decision) → kind_of d ≡ Ok true → (ls : List Cert) × (d ≡ opens ls)
opens-is quiet e = let z : ◌≡◌ {A = ℕ} 0 1 = cc in absurd (omega arith)
opens-is missing e = let z : ◌≡◌ {A = ℕ} 0 1 = cc in absurd (omega arith)
opens-is (opens ls) e = (ls, refl)

module _ (a : Agreed) (last : List ℕ) (held : List Cert) (opener : ℕ) (O : Opener a last held opener) where
  abbrev L : ℕ
  L = (cert_at held opener).round

  is_open : (ls : List Cert) × (decide a (L + 3) last held ≡ opens ls)
  is_open = opens-is (decide a (L + 3) last held) O.opens

  opened : Opening a (L + 3) last held is_open.0
  opened = opening a (L + 3) last held is_open.0 is_open.1

  pub opener-even : L % 2 ≡ 0
  opener-even = let o = opened.odd in omega arith

  pub opener-two : 2 ≤ L
  opener-two = let o = opened.five in omega arith

  pub opener-above : highest last < L
  opener-above = let o = opened.above in omega arith

  -- no round from the lowest held candidate's up to the opener's is empty
  pub opener-whole : (low q : ℕ) → low ≡ highest last + 2 → a.candidates ≡ edition1 → q ≡ lowest_round a low (L - 1) held → (q ≡ 0 → ⊥) → hole_in (suc (L - 1) - q) q held ≡ false
  opener-whole low q el E eq nz =
      let two = opener-two in
      let k : L - 1 ≡ L + 3 - 4 = omega arith in
      let p : q ≡ lowest_round a (highest last + 2) (L + 3 - 4) held = eq ∙ ap (λ (v : ℕ). lowest_round a v (L - 1) held) el ∙ ap (λ (v : ℕ). lowest_round a (highest last + 2) v held) k in
      let m : suc (L - 1) ≡ L + 3 - 3 = omega arith in
      ap (λ (v : ℕ). hole_in (v - q) q held) m ∙ opens-whole a (L + 3) last held is_open.0 is_open.1 (highest last) refl E q p nz

  its-place : opener ≡ pair_place (leader_place (length a.stakes) L) L held
  unfolding leader_at
  its-place = O.leads

  -- and what is decided are the leaders taken
  pub opener-decides : (k : ℕ) (rounds after : List ℕ) → Taken a last held opener k rounds after → decide a (L + 3) last held ≡ opens (map (leader_in a held) (reverse (take k (rounds_of after))))
  opener-decides k rounds after T =
      let ls : List Cert = is_open.0 in
      let o : Opening a (L + 3) last held ls = opened in
      let m : L + 3 - 3 ≡ L = omega arith in
      let here : leader a L held ≡ present o.opener = ap (λ (v : ℕ). leader a v held) (sym m) ∙ o.leads in
      let u : o.opener ≡ cert_at held opener = sym (leader-cert a L held opener its-place o.opener here) in
      let p : leaders_from a held (cert_at held opener) (cert_at held opener ∷ []) (a.candidates L (highest last)) ≡ leaders ls =
      ap (λ (v : ℕ). leaders_from a held (cert_at held opener) (cert_at held opener ∷ []) (a.candidates v (highest last))) (sym m)
      ∙ subst (λ (c : Cert). leaders_from a held c (c ∷ []) (a.candidates (L + 3 - 3) (highest last)) ≡ leaders ls) u o.order in
      let q : leaders (map (leader_in a held) (reverse (take k (rounds_of after)))) ≡ leaders ls = sym T.order ∙ p in
      is_open.1 ∙ ap opens (same (map (leader_in a held) (reverse (take k (rounds_of after)))) ls q)
    where
      same : (xs ys : List Cert) → leaders xs ≡ leaders ys → ys ≡ xs
      same xs ys e = cc

-- a caller's own: the decision on a round opens, and the place is that of the leader three rounds below
module _ (a : Agreed) (last : List ℕ) (held : List Cert) (round p : ℕ) (e : Ok true ≡ kind_of (decide a round last held)) (f : p ≡ leader_at a held (round - 3)) where
  of-round : Opening a round last held (opens-is (decide a round last held) (sym e)).0
  of-round = let y = opens-is (decide a round last held) (sym e) in opening a round last held y.0 y.1

  pub opener-fits : p < length held
  unfolding leader_at
  opener-fits = let o = of-round in leader-place a (round - 3) held p f o.opener o.leads

  pub opener-round : (cert_at held p).round ≡ round - 3
  unfolding leader_at
  opener-round = pair-round (leader_place (length a.stakes) (round - 3)) (round - 3) held p f opener-fits

  pub opener-is : Opener a last held p
  opener-is =
      let r = opener-round in
      let five = of-round.five in
      let m : (cert_at held p).round + 3 ≡ round = omega arith in
      record {
        leads = f ∙ ap (leader_at a held) (sym r);
        opens = ap (λ (v : ℕ). kind_of (decide a v last held)) m ∙ sym e;
      }
