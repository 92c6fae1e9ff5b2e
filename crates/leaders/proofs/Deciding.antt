-- The decision, one law for each way through the code. Assumes nothing.
use mathlib.Core.Path.{◌≡◌, refl, sym, ap, ◌∙◌}
use mathlib.Core.Bool.{Bool, true, false, not}
use mathlib.Core.List.{List}
use Prim.Native.Nat.{ℕ, ◌+◌, ◌-◌, ◌%◌, ◌≤◌, ◌<◌}
use native.Mathlib.Omega.{arith}
use borrow.Author.Tests.{leb-true, leb-false, ltb-true, ltb-false, not-true, not-false}
use lib.Dec.{leb, ltb}
use lib.ListN.{length}
use Rattle.table.specs.Rows.{count_of}
use Rattle.config.specs.Committee.{validity}
use Rattle.consensus.specs.Table.{cert_at, highest, is_empty, of_round}
use Rattle.consensus.specs.Leaders.{absent, decide, leader, present, stake_naming, total_stake}
use Rattle.consensus.proofs.Hole.{hole_in}
use Rattle.consensus.proofs.Leading.{leader-at, leader-off}
use Rattle.consensus.proofs.Settling.{decide-absent, decide-alone, decide-early, decide-empty, decide-even, decide-hole, decide-old, decide-weak, decide-whole, lowest_round}
use Rattle.held.specs.Rows.{held_of, lasts_of}
use Rattle.held.proofs.Laws.{length-held}
use Rattle.leaders.specs.Setup.{agreed_of, kind_of}
use Rattle.leaders.specs.Taking.{leader_at}
use Rattle.std.specs.Prelude.{Ok, Err}
use Rattle.refusal.specs.declared.Refusal.TheVariants.{HistoryMissing}
use Rattle.leaders.proofs.Agreeing.{agreed-edition}

module _ (s st t : List ℕ) (round : ℕ) where
  pub kind-even : (round % 2 ≡ 1 → ⊥) → Ok false ≡ kind_of (decide (agreed_of s) round (lasts_of st) (held_of t))
  kind-even h = sym (ap kind_of (decide-even (agreed_of s) round (lasts_of st) (held_of t) h))

  module _ (odd : round % 2 ≡ 1) where
    pub kind-early : round < 5 → Ok false ≡ kind_of (decide (agreed_of s) round (lasts_of st) (held_of t))
    kind-early h = sym (ap kind_of (decide-early (agreed_of s) round (lasts_of st) (held_of t) h))

    module _ (five : 5 ≤ round) (top : ℕ) (et : top ≡ highest (lasts_of st)) where
      pub kind-old : round - 3 ≤ top → Ok false ≡ kind_of (decide (agreed_of s) round (lasts_of st) (held_of t))
      kind-old h = sym (ap kind_of (decide-old (agreed_of s) round (lasts_of st) (held_of t) top et h))

      -- a leader that is not held is quiet, whatever C is
      pub kind-absent : (p count : ℕ) → p ≡ leader_at (agreed_of s) (held_of t) (round - 3) → count ≡ count_of t → count ≤ p → Ok false ≡ kind_of (decide (agreed_of s) round (lasts_of st) (held_of t))
      unfolding leader_at
      kind-absent p count ep ec h = go (ltb top (round - 3)) refl
        where
          l : length (held_of t) ≡ count_of t
          l = length-held t

          off : leader (agreed_of s) (round - 3) (held_of t) ≡ absent
          off = let k = l in leader-off (agreed_of s) (round - 3) (held_of t) p ep (omega arith)

          go : (b : Bool) → ltb top (round - 3) ≡ b → Ok false ≡ kind_of (decide (agreed_of s) round (lasts_of st) (held_of t))
          go true q = sym (ap kind_of (decide-absent (agreed_of s) round (lasts_of st) (held_of t) top et odd five (ltb-true top (round - 3) q) off))
          go false q = kind-old (ltb-false top (round - 3) q)

      pub kind-none : count_of t ≡ leader_at (agreed_of s) (held_of t) (round - 3) → Ok false ≡ kind_of (decide (agreed_of s) round (lasts_of st) (held_of t))
      kind-none e = kind-absent (count_of t) (count_of t) e refl (omega arith)

      module _ (up : top < round - 3) (p : ℕ) (ep : p ≡ leader_at (agreed_of s) (held_of t) (round - 3)) where
        module _ (held : p < count_of t) where
          leads : leader (agreed_of s) (round - 3) (held_of t) ≡ present (cert_at (held_of t) p)
          unfolding leader_at
          leads = let l = length-held t in leader-at (agreed_of s) (round - 3) (held_of t) p ep (omega arith)

          module _ (b : Bool) (eb : b ≡ not (is_empty (of_round (round - 2) (held_of t)))) where
            empty : (x : Bool) → not b ≡ x → is_empty (of_round (round - 2) (held_of t)) ≡ x
            empty x q = go (is_empty (of_round (round - 2) (held_of t))) refl
              where
                go : (y : Bool) → is_empty (of_round (round - 2) (held_of t)) ≡ y → is_empty (of_round (round - 2) (held_of t)) ≡ x
                go true z = z ∙ sym (ap not (eb ∙ ap not z)) ∙ q
                go false z = z ∙ sym (ap not (eb ∙ ap not z)) ∙ q

            pub kind-empty : not b ≡ true → Err HistoryMissing ≡ kind_of (decide (agreed_of s) round (lasts_of st) (held_of t))
            kind-empty h =
                sym (ap kind_of (decide-empty (agreed_of s) round (lasts_of st) (held_of t) top et odd five up (cert_at (held_of t) p) leads (empty true h)))

            module _ (some : not b ≡ false) (d : List ℕ) (ed : d ≡ (cert_at (held_of t) p).digest) (x : Bool)
                (ex : x ≡ leb (validity (total_stake (agreed_of s).stakes)) (stake_naming (agreed_of s).stakes d (of_round (round - 2) (held_of t)))) where
              reaches : (y : Bool) → x ≡ y → leb (validity (total_stake (agreed_of s).stakes)) (stake_naming (agreed_of s).stakes (cert_at (held_of t) p).digest (of_round (round - 2) (held_of t))) ≡ y
              reaches y q =
                  sym (ex ∙ ap (λ (v : List ℕ). leb (validity (total_stake (agreed_of s).stakes)) (stake_naming (agreed_of s).stakes v (of_round (round - 2) (held_of t)))) ed) ∙ q

              pub kind-weak : not x ≡ true → Ok false ≡ kind_of (decide (agreed_of s) round (lasts_of st) (held_of t))
              kind-weak h =
                  sym (ap kind_of (decide-weak (agreed_of s) round (lasts_of st) (held_of t) top et odd five up (cert_at (held_of t) p) leads (empty false some)
                  (leb-false (validity (total_stake (agreed_of s).stakes)) (stake_naming (agreed_of s).stakes (cert_at (held_of t) p).digest (of_round (round - 2) (held_of t))) (reaches false (not-true x h)))))

              module _ (strong : not x ≡ false) where
                support : validity (total_stake (agreed_of s).stakes) ≤ stake_naming (agreed_of s).stakes (cert_at (held_of t) p).digest (of_round (round - 2) (held_of t))
                support = leb-true (validity (total_stake (agreed_of s).stakes)) (stake_naming (agreed_of s).stakes (cert_at (held_of t) p).digest (of_round (round - 2) (held_of t))) (reaches true (not-false x strong))

                pub kind-alone : 0 ≡ lowest_round (agreed_of s) (top + 2) (round - 4) (held_of t) → Ok true ≡ kind_of (decide (agreed_of s) round (lasts_of st) (held_of t))
                kind-alone e =
                    let y = decide-alone (agreed_of s) round (lasts_of st) (held_of t) top et odd five up (cert_at (held_of t) p) leads (empty false some) support (agreed-edition s) 0 e refl in
                    sym (ap kind_of y.1)

                module _ (q : ℕ) (eq : q ≡ lowest_round (agreed_of s) (top + 2) (round - 4) (held_of t)) (nz : q ≡ 0 → ⊥) (u : Bool) (eu : u ≡ not (hole_in (round - 3 - q) q (held_of t))) where
                  hole : (y : Bool) → u ≡ y → hole_in (round - 3 - q) q (held_of t) ≡ not y
                  hole y z = go (hole_in (round - 3 - q) q (held_of t)) refl
                    where
                      go : (w : Bool) → hole_in (round - 3 - q) q (held_of t) ≡ w → hole_in (round - 3 - q) q (held_of t) ≡ not y
                      go true k = k ∙ ap not (sym (eu ∙ ap not k) ∙ z)
                      go false k = k ∙ ap not (sym (eu ∙ ap not k) ∙ z)

                  pub kind-whole : u ≡ true → Ok true ≡ kind_of (decide (agreed_of s) round (lasts_of st) (held_of t))
                  kind-whole h =
                      let y = decide-whole (agreed_of s) round (lasts_of st) (held_of t) top et odd five up (cert_at (held_of t) p) leads (empty false some) support (agreed-edition s) q eq nz (hole true h) in
                      sym (ap kind_of y.1)

                  pub kind-hole : u ≡ false → Err HistoryMissing ≡ kind_of (decide (agreed_of s) round (lasts_of st) (held_of t))
                  kind-hole h =
                      sym (ap kind_of (decide-hole (agreed_of s) round (lasts_of st) (held_of t) top et odd five up (cert_at (held_of t) p) leads (empty false some) support (agreed-edition s) q eq nz (hole false h)))

                -- where it is not below top + 2
                module _ (q : ℕ) (eq : q ≡ lowest_round (agreed_of s) (top + 2) (round - 4) (held_of t)) (above : top + 2 ≤ q) (u : Bool) (eu : u ≡ not (hole_in (round - 3 - q) q (held_of t))) where
                  pub kind-unbroken : u ≡ true → Ok true ≡ kind_of (decide (agreed_of s) round (lasts_of st) (held_of t))
                  kind-unbroken h = kind-whole q eq (λ z. absurd (omega arith)) u eu h

                  pub kind-broken : u ≡ false → Err HistoryMissing ≡ kind_of (decide (agreed_of s) round (lasts_of st) (held_of t))
                  kind-broken h = kind-hole q eq (λ z. absurd (omega arith)) u eu h
