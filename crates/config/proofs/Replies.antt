-- The laws of `specs/Answers.antt`. Assumes nothing.
use mathlib.Core.Path.{◌≡◌, refl, sym, ap, ◌∙◌}
use mathlib.Core.Bool.{Bool, true, false, not, ◌&&◌}
use mathlib.Core.List.{List, []}
use Prim.Native.Nat.{ℕ, ◌+◌, ◌-◌, ◌*◌, ◌/◌, ◌≤◌, ◌<◌}
use native.Mathlib.Omega.{arith}
use lib.Dec.{eqb, leb}
use lib.ListN.{length, get_or, drop, length-drop}
use borrow.Author.Tests.{eq-eqb, ne_eqb, le-leb, lt-leb, not-true, not-false}
use Rattle.wire.specs.Items.{item_in}
use Rattle.wire.proofs.Lists.{all-at, item-fits, item-is, item-length}
use Rattle.config.specs.Members.{members_of, worker_count, has_worker, lawful}
use Rattle.config.specs.Committee.{valid_members, valid_setup, standing_of}
use Rattle.config.specs.Answers.{of_members, shaped_as, setup_answer, worker_of}
use Rattle.config.specs.declared.committee.Standing.{Standing}
use Rattle.std.specs.Prelude.{Option, Some, None}
use Rattle.std.specs.Int.{from_bool}
use Rattle.refusal.specs.Answers.{Answer}
use Rattle.refusal.specs.declared.Refusal.{Refusal}
use Rattle.std.specs.Prelude.{Ok, Err}
use Rattle.refusal.specs.declared.Refusal.TheVariants.{BadCommittee, BadShape}
use Rattle.config.proofs.Laws.{valid, valid-setup, members-are, members-fit, length-members, lawful-workers, standing-below}

-- ---- 10, then 11, then the answer
pub is-valid : (ms : List ℕ) (b : Bool) → b ≡ valid_members ms → not b ≡ false → valid_members ms ≡ true
is-valid ms b e h = sym e ∙ not-false b h

pub bad_members : (ms : List ℕ) (r : Refusal) (a : Answer) → r ≡ BadCommittee → valid_members ms ≡ false → Err r ≡ of_members ms a
unfolding of_members
bad_members ms r a e v = rw e (sym (rw (v, of_members)))

pub good-members : (ms : List ℕ) (x a : Answer) → valid_members ms ≡ true → x ≡ a → x ≡ of_members ms a
unfolding of_members
good-members ms x a v q = q ∙ sym (rw (v, of_members))

pub bad_shape : (t : Bool) (r : Refusal) (a : Answer) → r ≡ BadShape → t ≡ false → Err r ≡ shaped_as t a
unfolding shaped_as
bad_shape t r a e f = rw e (sym (rw (f, shaped_as)))

pub bad-shape : (t : Bool) (a : Answer) → t ≡ false → (Err BadShape) ≡ shaped_as t a
unfolding shaped_as
bad-shape t a e = sym (rw (e, shaped_as))

pub good-shape : (t : Bool) (x a : Answer) → t ≡ true → x ≡ a → x ≡ shaped_as t a
unfolding shaped_as
good-shape t x a e q = q ∙ sym (rw (e, shaped_as))

pub done : (m n : ℕ) → m ≡ n → ◌≡◌ {A = Answer} (Ok m) (Ok n)
done m n e = ap Ok e

-- ---- the tests of shape
module _ (key : List ℕ) (id : ℕ) where
  pub worker-key : (length key ≡ 32 → ⊥) → eqb (length key) 32 && leb id 4294967295 ≡ false
  worker-key h = rw (ne_eqb _ _ h)

  pub worker-id : length key ≡ 32 → 4294967295 < id → eqb (length key) 32 && leb id 4294967295 ≡ false
  worker-id h l = rw (eq-eqb _ _ h, lt-leb id 4294967295 l)

  pub worker-both : length key ≡ 32 → id ≤ 4294967295 → eqb (length key) 32 && leb id 4294967295 ≡ true
  worker-both h l = rw (eq-eqb _ _ h, le-leb id 4294967295 l)

module _ (round : ℕ) where
  pub round-low : round < 1 → leb 1 round && leb round 4294967295 ≡ false
  round-low h = rw (lt-leb 1 round h)

  pub round-high : 1 ≤ round → 4294967295 < round → leb 1 round && leb round 4294967295 ≡ false
  round-high h l = rw (le-leb 1 round h, lt-leb round 4294967295 l)

  pub round-right : 1 ≤ round → round ≤ 4294967295 → leb 1 round && leb round 4294967295 ≡ true
  round-right h l = rw (le-leb 1 round h, le-leb round 4294967295 l)

-- ---- a setup
module _ (s : List ℕ) where
  pub setup_bad : (r : Refusal) → r ≡ BadCommittee → valid_setup s ≡ false → Err r ≡ setup_answer s
  unfolding setup_answer
  setup_bad r e v = rw e (sym (rw (v, setup_answer)))

  pub setup-good : (n : ℕ) → valid_setup s ≡ true → n ≡ (length s - 8) / 69 → Ok n ≡ setup_answer s
  unfolding setup_answer
  setup-good n v e = rw e (sym (rw (v, setup_answer, length-drop)))

  pub setup-few : valid_setup s ≡ true → (length s - 8) / 69 ≤ 32
  setup-few h =
      let v = valid-setup s h in
      rw length-drop at (valid (drop 8 s) v.members).few

-- ---- a worker
module _ (ms key : List ℕ) (id : ℕ) (x : Option Standing) (e : x ≡ standing_of (members_of ms) key) where
  pub no_member : x ≡ None → 0 ≡ worker_of (members_of ms) key id
  unfolding worker_of
  no_member g = sym (rw (sym e ∙ g, worker_of))

  module _ (h : valid_members ms ≡ true) (m : Standing) (g : x ≡ Some m) where
    abbrev i : ℕ
    i = m.place

    below : i < length ms / 69
    below = omega (arith, standing-below (members_of ms) key m (sym e ∙ g), length-members ms)

    pub worker-fits : 0 + i * 69 + 69 ≤ length ms
    worker-fits = item-fits 69 ms 0 (length ms / 69) (members-fit ms (length ms / 69) refl) i below

    module _ (r : List ℕ) (q : r ≡ item_in 69 ms 0 i) where
      row : r ≡ get_or (members_of ms) i []
      row =
          q
          ∙ item-is 69 ms 0 (length ms / 69) (members-fit ms (length ms / 69) refl) i below
          ∙ ap (λ (z : List (List ℕ)). get_or z i []) (members-are ms (length ms / 69) refl)

      pub worker-reach : 69 ≤ length r
      worker-reach = omega (arith, ap length q, item-length 69 ms 0 (length ms / 69) (members-fit ms (length ms / 69) refl) i below)

      pub worker-few : worker_count r ≤ 8
      worker-few =
          lawful-workers r (rw row (all-at lawful (members_of ms) i (valid ms h).each (omega (arith, below, length-members ms))))

      pub worker-is : (b : Bool) (n : ℕ) → b ≡ has_worker id r → n ≡ from_bool b → n ≡ worker_of (members_of ms) key id
      unfolding worker_of
      worker-is b n p q = q ∙ go b refl where
        go : (x : Bool) → b ≡ x → from_bool x ≡ worker_of (members_of ms) key id
        go true t = sym (rw (sym e ∙ g, worker_of, ← row, sym p ∙ t, worker_of))
        go false t = sym (rw (sym e ∙ g, worker_of, ← row, sym p ∙ t, worker_of))
