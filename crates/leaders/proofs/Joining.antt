-- The loop that takes the leaders of a commit: the opening one, then each earlier one that the leader taken last reaches. Assumes nothing.
use mathlib.Core.Path.{◌≡◌, refl, sym, ap, subst, ◌∙◌}
use mathlib.Core.Bool.{Bool, true, false, not}
use mathlib.Core.List.{List, [], ◌∷◌, map, reverse, reverse-append}
use Prim.Native.Nat.{ℕ, suc, ◌+◌, ◌-◌, ◌*◌, ◌^◌, ◌≤◌, ◌<◌}
use native.Mathlib.Numerals.{add-one}
use native.Mathlib.Omega.{arith}
use borrow.Author.Tests.{not-true, not-false}
use mir.Syntax.{w32}
use mir.Val.{Fits}
use lib.ListN.{length, set, take}
use lib.Seq.{take-suc-set}
use Rattle.table.specs.Rows.{count_of}
use Rattle.room.specs.Numbers.{Put, rounds_of}
use Rattle.room.proofs.Laws.{length-rounds}
use Rattle.consensus.specs.Table.{Cert, cert_at, highest}
use Rattle.consensus.specs.Leaders.{Agreed, Leaders, leaders, leaders_from, link, linked}
use Rattle.consensus.specs.Candidates.{edition1}
use Rattle.consensus.proofs.Hole.{hole_in}
use Rattle.consensus.proofs.Scan.{next_round}
use Rattle.consensus.proofs.Leading.{Leading, lead-done, lead-pass, lead-room, lead-start, lead-take, next-floor, next_place, next-roof, next-round}
use Rattle.consensus.proofs.Settling.{lead-lowest, lead-whole, lowest_round}
use Rattle.held.specs.Rows.{held_of, held_shape, lasts_of}
use Rattle.held.proofs.Laws.{length-held}
use Rattle.leaders.specs.Setup.{agreed_of}
use Rattle.leaders.specs.Taking.{Opener, Taken, leader_at, leader_in}
use Rattle.leaders.proofs.Agreeing.{agreed-edition}
use Rattle.leaders.proofs.Opening.{opener-above, opener-even, opener-two, opener-whole}

-- ---- the rounds stored, lowest first

-- one more
stored : (xs : List ℕ) (k q : ℕ) → k < length xs → reverse (take (k + 1) (set xs k q)) ≡ q ∷ reverse (take k xs)
stored xs k q h = rw (add-one, take-suc-set xs k q h) (reverse-append (take k xs) (q ∷ []))

places-are : (a : Agreed) (held : List Cert) (rs : List ℕ) → map (cert_at held) (map (leader_at a held) rs) ≡ map (leader_in a held) rs
unfolding leader_in
places-are a held [] = refl
places-are a held (r ∷ rs) = ap (λ (v : List Cert). cert_at held (leader_at a held r) ∷ v) (places-are a held rs)

-- ---- the loop's invariant: n members, low the lowest round that counts, first the opening leader's round, rounds₀ the room at the start;
-- last is the leader taken last, k how many are taken, r the highest round not yet looked at

abbrev pub whole : List ℕ → List ℕ → List ℕ → ℕ → Leaders
whole s st t opener =
    leaders_from (agreed_of s) (held_of t) (cert_at (held_of t) opener) (cert_at (held_of t) opener ∷ []) ((agreed_of s).candidates (cert_at (held_of t) opener).round (highest (lasts_of st)))

pub record Joining (s st t : List ℕ) (opener n low first : ℕ) (rounds₀ marks rounds : List ℕ) (last k r : ℕ) : Type 0 where
  pub shape : held_shape n t ≡ true
  pub size : length marks ≡ count_of t
  pub kept : length rounds ≡ length rounds₀
  pub room : count_of t * 4 ≤ length rounds
  pub most : k ≤ count_of t
  pub few : length rounds < 2 ^ 64
  pub before : List ℕ
  pub many : length (last ∷ before) ≡ k
  pub taken : map (leader_at (agreed_of s) (held_of t)) (reverse (take k (rounds_of rounds))) ≡ last ∷ before
  pub leads : Leading (agreed_of s) (held_of t) low (first - 1) (whole s st t opener) r last before
  pub gapless : (q : ℕ) → q ≡ lowest_round (agreed_of s) low (first - 1) (held_of t) → (q ≡ 0 → ⊥) → hole_in (suc (first - 1) - q) q (held_of t) ≡ false

-- before the loop: what is added to the last committed round fits, and what is taken off the first round
module _ (s st t : List ℕ) (opener first : ℕ) (O : Opener (agreed_of s) (lasts_of st) (held_of t) opener) (ef : first ≡ (cert_at (held_of t) opener).round) where
  pub joining-low : (top k : ℕ) → top ≡ highest (lasts_of st) → first < 2 ^ 32 → k ≤ 2 → Fits w32 (top + k)
  joining-low top k et h l =
      let up = opener-above (agreed_of s) (lasts_of st) (held_of t) opener O in
      let even = opener-even (agreed_of s) (lasts_of st) (held_of t) opener O in
      record { fits = omega arith }

  pub joining-two-below : (k : ℕ) → k ≤ 2 → k ≤ first
  joining-two-below k l = let two = opener-two (agreed_of s) (lasts_of st) (held_of t) opener O in omega arith

-- at the start the opening leader is taken
pub joining-start : (s st t : List ℕ) (opener n first top : ℕ) (rounds after marks : List ℕ) → held_shape n t ≡ true → length marks ≡ count_of t → count_of t * 4 ≤ length rounds → length rounds < 2 ^ 64
    → opener < count_of t → Opener (agreed_of s) (lasts_of st) (held_of t) opener → first ≡ (cert_at (held_of t) opener).round → top ≡ highest (lasts_of st) → Put rounds_of rounds 0 first after
    → Joining s st t opener n (top + 2) first after marks after opener 1 (first - 1)
unfolding leader_at
joining-start s st t opener n first top rounds after marks h m room few lt O ef et P =
    let a : Agreed = agreed_of s in
    let held : List Cert = held_of t in
    let l = length-held t in
    let up = opener-above a (lasts_of st) held opener O in
    let two = opener-two a (lasts_of st) held opener O in
    let z = P.size in
    let w = length-rounds rounds in
    let e : opener ≡ leader_at a held first = O.leads ∙ ap (leader_at a held) (sym ef) in
    let L : Leading a held (top + 2) (first - 1) (leaders_from a held (cert_at held opener) (cert_at held opener ∷ []) (edition1 first top)) (first - 1) opener [] =
    lead-start a held first top opener (top + 2) (first - 1) e (omega arith) (omega arith) refl refl in
    let same : leaders_from a held (cert_at held opener) (cert_at held opener ∷ []) (edition1 first top) ≡ whole s st t opener =
    ap (λ (f : ℕ → ℕ → List ℕ). leaders_from a held (cert_at held opener) (cert_at held opener ∷ []) (f first top)) (sym (agreed-edition s))
    ∙ ap (λ (v : ℕ). leaders_from a held (cert_at held opener) (cert_at held opener ∷ []) (a.candidates v top)) ef
    ∙ ap (λ (v : ℕ). leaders_from a held (cert_at held opener) (cert_at held opener ∷ []) (a.candidates (cert_at held opener).round v)) et in
    let one : take 1 (rounds_of after) ≡ first ∷ [] = ap (take 1) P.is ∙ take-suc-set (rounds_of rounds) 0 first (omega arith) in
    record {
      shape = h;
      size = m;
      kept = refl;
      room = omega arith;
      most = omega arith;
      few = omega arith;
      before = [];
      many = refl;
      taken = ap (λ (v : List ℕ). map (leader_at a held) (reverse v)) one ∙ ap (λ (v : ℕ). v ∷ []) (sym e);
      leads = subst (λ (v : Leaders). Leading a held (top + 2) (first - 1) v (first - 1) opener []) same L;
      gapless = λ q eq nz.
          ap (λ (v : ℕ). hole_in (suc (v - 1) - q) q held) ef
          ∙ opener-whole a (lasts_of st) held opener O (top + 2) q (ap (λ (v : ℕ). v + 2) et) (agreed-edition s)
          (eq ∙ ap (λ (v : ℕ). lowest_round a (top + 2) (v - 1) held) ef) nz;
    }

module _ {s st t : List ℕ} {opener n low first : ℕ} {rounds₀ marks rounds : List ℕ} {last k r : ℕ}
    (J : Joining s st t opener n low first rounds₀ marks rounds last k r) where
  pub joining-last : last < count_of t
  joining-last = let f = J.leads.fits in let l = length-held t in omega arith

  pub joining-done : 0 ≡ next_round (agreed_of s) low r (held_of t) → (rounds₁ : List ℕ) (x : ℕ) → Put rounds_of rounds₁ 0 x rounds₀ → Taken (agreed_of s) (lasts_of st) (held_of t) opener k rounds₁ rounds
  joining-done e rounds₁ x P =
      let m = J.many in
      let f = J.most in
      let l = length-held t in
      record {
        order =
            lead-done (agreed_of s) (held_of t) low (first - 1) (whole s st t opener) r last J.before J.leads 0 e refl
            ∙ ap leaders (ap (map (cert_at (held_of t))) (sym J.taken) ∙ places-are (agreed_of s) (held_of t) (reverse (take k (rounds_of rounds))));
        some = omega arith;
        most = omega arith;
        size = J.kept ∙ P.size;
      }

  -- it is found; one that is not below low is one
  module _ {q : ℕ} (e : q ≡ next_round (agreed_of s) low r (held_of t)) where
    pub joining-some : low ≤ q → q ≡ 0 → ⊥
    joining-some above z = let w = J.leads.two in absurd (omega arith)

    module _ (nz : q ≡ 0 → ⊥) where
      pub joining-two : 2 ≤ q
      joining-two = let f = next-floor (agreed_of s) (held_of t) low r q e nz in let w = J.leads.two in omega arith

      pub joining-falls : q - 2 < r
      joining-falls = let f = joining-two in let u = next-roof (agreed_of s) (held_of t) low r q e in omega arith

      module _ {p : ℕ} (f : p ≡ leader_at (agreed_of s) (held_of t) q) where
        pub joining-place : p < count_of t
        unfolding leader_at
        joining-place = let x = next_place (agreed_of s) (held_of t) low r q p e nz f in let l = length-held t in omega arith

        its-round : (cert_at (held_of t) p).round ≡ q
        unfolding leader_at
        its-round = next-round (agreed_of s) (held_of t) low r q p e nz f

        pub joining-below : (cert_at (held_of t) p).round ≤ (cert_at (held_of t) last).round
        joining-below = let x = its-round in let u = next-roof (agreed_of s) (held_of t) low r q e in let w = J.leads.under in omega arith

        pub joining-whole : hole_in ((cert_at (held_of t) last).round - (cert_at (held_of t) p).round) (cert_at (held_of t) p).round (held_of t) ≡ false
        joining-whole =
            let q₀ : ℕ = lowest_round (agreed_of s) low (first - 1) (held_of t) in
            let y = lead-lowest (agreed_of s) (held_of t) low (first - 1) (whole s st t opener) r last J.before J.leads q₀ q refl e nz in
            let h = lead-whole (agreed_of s) (held_of t) low (first - 1) (whole s st t opener) r last J.before J.leads q₀ q refl e nz (suc (first - 1)) refl (J.gapless q₀ refl y) in
            rw its-round h

        -- each leader taken has a round of its own, so there is a place for one more
        joining-more : k < count_of t
        unfolding leader_at
        joining-more =
            let x = lead-room (agreed_of s) (held_of t) low (first - 1) (whole s st t opener) r last J.before J.leads q p e nz f in
            let m = J.many in
            let l = length-held t in
            omega arith

        pub joining-room : k * 4 + 4 ≤ length rounds
        joining-room = let x = joining-more in let w = J.room in omega arith

        module _ (marks' : List ℕ) (em : length marks' ≡ length marks) (b : Bool)
            (g : link b ≡ linked ((cert_at (held_of t) last).round - (cert_at (held_of t) p).round) (cert_at (held_of t) p).round (cert_at (held_of t) p).digest (cert_at (held_of t) last ∷ []) (held_of t)) where
          tested : (c : Bool) → b ≡ c → linked ((cert_at (held_of t) last).round - q) q (cert_at (held_of t) p).digest (cert_at (held_of t) last ∷ []) (held_of t) ≡ link c
          tested c z =
              ap (λ (v : ℕ). linked ((cert_at (held_of t) last).round - v) v (cert_at (held_of t) p).digest (cert_at (held_of t) last ∷ []) (held_of t)) (sym its-round)
              ∙ sym g ∙ ap link z

          pub joining-pass : not b ≡ true → Joining s st t opener n low first rounds₀ marks' rounds last k (q - 2)
          unfolding leader_at
          joining-pass z =
              record {
                shape = J.shape;
                size = em ∙ J.size;
                kept = J.kept;
                room = J.room;
                most = J.most;
                few = J.few;
                before = J.before;
                many = J.many;
                taken = J.taken;
                leads = lead-pass (agreed_of s) (held_of t) low (first - 1) (whole s st t opener) r last J.before J.leads q p e nz f (tested false (not-true b z));
                gapless = J.gapless;
              }

          pub joining-take : not b ≡ false → (after : List ℕ) → Put rounds_of rounds k q after → Joining s st t opener n low first rounds₀ marks' after p (k + 1) (q - 2)
          unfolding leader_at
          joining-take z after P =
              let m = J.many in
              let u = joining-more in
              let w = J.room in
              let l = length-rounds rounds in
              let y = P.size in
              let rs : reverse (take (k + 1) (rounds_of after)) ≡ q ∷ reverse (take k (rounds_of rounds)) =
              ap (λ (v : List ℕ). reverse (take (k + 1) v)) P.is ∙ stored (rounds_of rounds) k q (omega arith) in
              record {
                shape = J.shape;
                size = em ∙ J.size;
                kept = y ∙ J.kept;
                room = omega arith;
                most = omega arith;
                few = rw y J.few;
                before = last ∷ J.before;
                many = omega arith;
                taken = ap (map (leader_at (agreed_of s) (held_of t))) rs ∙ ap (λ (v : ℕ). v ∷ map (leader_at (agreed_of s) (held_of t)) (reverse (take k (rounds_of rounds)))) (sym f) ∙ ap (λ (v : List ℕ). p ∷ v) J.taken;
                leads = lead-take (agreed_of s) (held_of t) low (first - 1) (whole s st t opener) r last J.before J.leads q p e nz f (tested true (not-false b z));
                gapless = J.gapless;
              }
