-- The list under a leader: walked and then sorted. Assumes nothing.
use mathlib.Core.Path.{◌≡◌, ap, ◌∙◌}
use mathlib.Core.List.{List, map}
use Prim.Native.Nat.{ℕ, ◌*◌, ◌≤◌, ◌<◌}
use native.Mathlib.Omega.{arith}
use lib.ListN.{length, take, drop}
use lib.Seq.{length-take-le, take_at}
use Rattle.table.specs.Rows.{count_of}
use Rattle.room.specs.Numbers.{numbers_of}
use Rattle.room.proofs.Laws.{length-numbers}
use Rattle.consensus.specs.Among.{In}
use Rattle.consensus.specs.Table.{cert_at, highest}
use Rattle.consensus.specs.Walk.{walk_from, by_round}
use Rattle.consensus.proofs.Sorting.{near, by_round_in, near-map, sort-map, near-below, sort-below, sort-length, walk-below}
use Rattle.held.specs.Rows.{held_of, lasts_of, state_of}
use Rattle.held.proofs.Laws.{length-held}
use Rattle.dag.specs.Ordered.{Ordered}
use Rattle.dag.specs.Steps.{Low, Walked, Sorted}
use Rattle.dag.proofs.Placing.{low_of}

-- o₁ is the list as the walk leaves it
module _ (st t : List ℕ) (depth leader m : ℕ) (p p' f f' o o₁ : List ℕ) (w : Walked st t depth leader m p p' f f' o o₁) (r : count_of t * 8 ≤ length o) where
  pub listed-fits : m * 8 ≤ length o₁
  listed-fits = omega (arith, w.few, w.out)

  there : m ≤ length (numbers_of o₁)
  there = omega (arith, length-numbers o₁, listed-fits)

  module _ (l : leader < count_of t) where
    below : (j : ℕ) → In j (near depth (highest (lasts_of st)) (held_of t) (walk_from (state_of st t) leader)) → j < count_of t
    unfolding state_of
    below =
        near-below depth (highest (lasts_of st)) (held_of t) (walk_from (state_of st t) leader) (count_of t)
        (λ j h. rw (← length-held t) (walk-below (state_of st t) leader (rw (length-held t) l) j h))

    pub listed-low : Low (count_of t) (numbers_of o₁) m
    listed-low = low_of (count_of t) (numbers_of o₁) (near depth (highest (lasts_of st)) (held_of t) (walk_from (state_of st t) leader)) m w.is there below

    module _ (o₂ : List ℕ) (s : Sorted (held_of t) m o₁ o₂) where
      front : take m (numbers_of o₂) ≡ by_round_in (held_of t) (near depth (highest (lasts_of st)) (held_of t) (walk_from (state_of st t) leader))
      front =
          ap (take m) s.is
          ∙ take_at (by_round_in (held_of t) (take m (numbers_of o₁))) (drop m (numbers_of o₁)) m (sort-length (held_of t) (take m (numbers_of o₁)) ∙ length-take-le m (numbers_of o₁) there)
          ∙ ap (by_round_in (held_of t)) w.is

      pub ordered : Ordered st t depth leader m p p' f f' o o₂
      ordered =
          let js : List ℕ = walk_from (state_of st t) leader in
          let ns : List ℕ = near depth (highest (lasts_of st)) (held_of t) js in
          record {
            certs =
                ap (map (cert_at (held_of t))) front
                ∙ sort-map (held_of t) ns
                ∙ ap by_round (near-map depth (highest (lasts_of st)) (held_of t) js);
            low =
                low_of (count_of t) (numbers_of o₂) (by_round_in (held_of t) ns) m front (omega (arith, length-numbers o₂, listed-fits, s.size))
                (sort-below (held_of t) ns (count_of t) below);
            few = w.few;
            pile = w.pile;
            marks = w.marks;
            out = s.size ∙ w.out;
          }
