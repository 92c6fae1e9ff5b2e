-- The laws of `specs/`. Assumes nothing.
use mathlib.Core.Path.{◌≡◌, refl, sym, ap, ◌∙◌}
use mathlib.Core.Bool.{Bool, true, false, not, ◌&&◌}
use mathlib.Core.List.{List, []}
use Prim.Native.Nat.{ℕ, ◌+◌, ◌*◌, ◌/◌, ◌%◌, ◌≤◌, ◌<◌}
use native.Mathlib.Nat.{mod-lt}
use native.Mathlib.Omega.{arith}
use lib.Dec.{eqb, leb}
use lib.ListN.{length, get_or, drop}
use borrow.Author.Tests.{eq-eqb, ne_eqb, eqb-true, leb-true, le-leb, lt-leb, not-true, not-false}
use Rattle.wire.specs.Bytes.{part, word}
use Rattle.wire.specs.Items.{items, item_in, first_of, has_part, all_of, keys, ascends}
use Rattle.std.specs.Option.{is_some}
use Rattle.wire.proofs.Laws.{part-all, true-not-false}
use Rattle.wire.proofs.Chains.{first-same}
use Rattle.wire.proofs.Lists.{length-items, first_found, found-fits, found-is, found-length}
use Rattle.config.specs.Members.{members_of, stake_in, worker_count, workers_in, is_worker, has_worker, lawful}
use Rattle.config.specs.Committee.{total, quorum, validity, valid_members, depth_of, valid_setup, standing_of, stake_of, leader_place}
use Rattle.config.specs.declared.committee.Standing.{Standing}
use Rattle.std.specs.Prelude.{Option, Some, None}

pub both : (a b : Bool) → a && b ≡ true → (a ≡ true) × (b ≡ true)
both true b e = (refl, e)
both false b e = absurd (true-not-false (sym e))

-- ---- the list of members
pub members-are : (ms : List ℕ) (n : ℕ) → n ≡ length ms / 69 → items 69 ms 0 n ≡ members_of ms
unfolding members_of
members-are ms n e = rw e

pub members-fit : (ms : List ℕ) (n : ℕ) → n ≡ length ms / 69 → 0 + n * 69 ≤ length ms
members-fit ms n e = omega arith

pub length-members : (ms : List ℕ) → length (members_of ms) ≡ length ms / 69
unfolding members_of
length-members ms = length-items 69 ms 0 (length ms / 69)

-- ---- a member
module _ (member : List ℕ) (s : ℕ) (e : s ≡ stake_in member) where
  pub lawful-poor : s < 1 → false ≡ lawful member
  unfolding lawful
  lawful-poor h = let l : stake_in member < 1 = omega arith in sym (rw (lt-leb 1 (stake_in member) l))

  pub lawful-last : (k : ℕ) → 1 ≤ s → k ≡ worker_count member → leb k 8 ≡ lawful member
  unfolding lawful
  lawful-last k h f = let l : 1 ≤ stake_in member = omega arith in sym (rw (le-leb 1 (stake_in member) l, ← f))

pub lawful-workers : (member : List ℕ) → lawful member ≡ true → worker_count member ≤ 8
unfolding lawful
lawful-workers member e = leb-true _ _ (both (leb 1 (stake_in member)) (leb (worker_count member) 8) e).1

-- the search for a worker: the first 4 bytes of an id are the id
pub has-worker-is : (id : ℕ) (member : List ℕ) (n : ℕ) → 69 ≤ length member → worker_count member ≤ 8 → n ≡ worker_count member → is_some (first_of (λ w. eqb (word (part w 0 4)) id) (items 4 member 37 n) 0) ≡ has_worker id member
unfolding has_worker workers_in is_worker
has-worker-is id member n h l e =
    let q = first-same 4 member 37 n (omega arith) (λ w. eqb (word (part w 0 4)) id) (is_worker id) (λ w k. rw (part-all w 4 k)) 0 in
    rw (q, ← e)

-- ---- the domain: one law for each way through the test
module _ (ms : List ℕ) where
  pub ragged : (length ms % 69 ≡ 0 → ⊥) → false ≡ valid_members ms
  unfolding valid_members
  ragged h = sym (rw (ne_eqb _ _ h))

  module _ (whole : length ms % 69 ≡ 0) where
    pub nobody : length ms / 69 < 1 → false ≡ valid_members ms
    unfolding valid_members
    nobody h = sym (rw (eq-eqb _ _ whole, lt-leb 1 (length ms / 69) h))

    module _ (one : 1 ≤ length ms / 69) where
      pub many : 32 < length ms / 69 → false ≡ valid_members ms
      unfolding valid_members
      many h = sym (rw (eq-eqb _ _ whole, le-leb 1 (length ms / 69) one, lt-leb (length ms / 69) 32 h))

      module _ (few : length ms / 69 ≤ 32) (a : Bool) (ea : a ≡ ascends (keys (items 69 ms 0 (length ms / 69)))) where
        order : (b : Bool) → a ≡ b → ascends (keys (members_of ms)) ≡ b
        order b q = sym (ea ∙ ap (λ (z : List (List ℕ)). ascends (keys z)) (members-are ms (length ms / 69) refl)) ∙ q

        pub unordered : not a ≡ true → false ≡ valid_members ms
        unfolding valid_members
        unordered h = sym (rw (eq-eqb _ _ whole, le-leb 1 (length ms / 69) one, le-leb (length ms / 69) 32 few, order false (not-true a h)))

        module _ (up : not a ≡ false) (b : Bool) (eb : b ≡ all_of lawful (members_of ms)) where
          pub unlawful : not b ≡ true → false ≡ valid_members ms
          unfolding valid_members
          unlawful h =
              sym
              (rw (eq-eqb _ _ whole, le-leb 1 (length ms / 69) one, le-leb (length ms / 69) 32 few, order true (not-false a up), sym eb ∙ not-true b h))

          pub weighed : (t : ℕ) → not b ≡ false → t ≡ total (members_of ms) → leb t 16777216 ≡ valid_members ms
          unfolding valid_members
          weighed t h e =
              sym
              (rw (eq-eqb _ _ whole, le-leb 1 (length ms / 69) one, le-leb (length ms / 69) 32 few, order true (not-false a up), sym eb ∙ not-false b h, ← e))

pub small : (ms : List ℕ) → length ms % 69 ≡ 0 → length ms / 69 ≤ 32 → length ms ≤ 2208
small ms h l = omega arith

-- what the domain says
pub record Valid (ms : List ℕ) : Type 0 where
  pub whole : length ms % 69 ≡ 0
  pub one : 1 ≤ length ms / 69
  pub few : length ms / 69 ≤ 32
  pub order : ascends (keys (members_of ms)) ≡ true
  pub each : all_of lawful (members_of ms) ≡ true
  pub weight : total (members_of ms) ≤ 16777216

pub valid : (ms : List ℕ) → valid_members ms ≡ true → Valid ms
unfolding valid_members
valid ms h =
    let a = both _ _ h in
    let b = both _ _ a.0 in
    let c = both _ _ b.0 in
    let d = both _ _ c.0 in
    let e = both _ _ d.0 in
    record {
      whole = eqb-true _ _ e.0;
      one = leb-true _ _ e.1;
      few = leb-true _ _ d.1;
      order = c.1;
      each = b.1;
      weight = leb-true _ _ a.1;
    }

-- the same, of a test that said yes
pub valid-size : (ms : List ℕ) → valid_members ms ≡ true → length ms ≤ 2208
valid-size ms h = let v = valid ms h in small ms v.whole v.few

pub valid-weight : (ms : List ℕ) (t : ℕ) → valid_members ms ≡ true → t ≡ total (members_of ms) → t ≤ 16777216
valid-weight ms t h e = omega (arith, (valid ms h).weight)

pub valid-some : (ms : List ℕ) → valid_members ms ≡ true → 1 ≤ length ms / 69
valid-some ms h = (valid ms h).one

pub quorum-is : (ms : List ℕ) (t : ℕ) → t ≡ total (members_of ms) → 2 * t / 3 + 1 ≡ quorum (total (members_of ms))
unfolding quorum
quorum-is ms t e = rw e

pub validity-is : (ms : List ℕ) (t : ℕ) → t ≡ total (members_of ms) → (t + 2) / 3 ≡ validity (total (members_of ms))
unfolding validity
validity-is ms t e = rw e

-- ---- a setup
module _ (s : List ℕ) where
  pub setup-short : length s < 8 → false ≡ valid_setup s
  unfolding valid_setup
  setup-short h = sym (rw (lt-leb 8 (length s) h))

  module _ (long : 8 ≤ length s) (d : ℕ) (e : d ≡ word (part s 0 8)) where
    pub setup-deep : 4294967295 < d → false ≡ valid_setup s
    unfolding valid_setup depth_of
    setup-deep h = let l : 4294967295 < word (part s 0 8) = omega arith in sym (rw (le-leb 8 (length s) long, lt-leb (word (part s 0 8)) 4294967295 l))

    pub setup-last : (ms : List ℕ) (b : Bool) → d ≤ 4294967295 → ms ≡ drop 8 s → b ≡ valid_members ms → b ≡ valid_setup s
    unfolding valid_setup depth_of
    setup-last ms b h f g =
        let l : word (part s 0 8) ≤ 4294967295 = omega arith in
        g ∙ rw f (sym (rw (le-leb 8 (length s) long, le-leb (word (part s 0 8)) 4294967295 l)))

pub record ValidSetup (s : List ℕ) : Type 0 where
  pub long : 8 ≤ length s
  pub deep : depth_of s ≤ 4294967295
  pub members : valid_members (drop 8 s) ≡ true

pub valid-setup : (s : List ℕ) → valid_setup s ≡ true → ValidSetup s
unfolding valid_setup
valid-setup s h =
    let a = both _ _ h in
    let b = both _ _ a.0 in
    record { long = leb-true _ _ b.0; deep = leb-true _ _ b.1; members = a.1 }

-- ---- what a key is
module _ (ms key : List ℕ) (f : Option ℕ) (e : f ≡ first_of (has_part 0 key) (items 69 ms 0 (length ms / 69)) 0) where
  found_in : f ≡ first_of (has_part 0 key) (members_of ms) 0
  found_in = e ∙ ap (λ (z : List (List ℕ)). first_of (has_part 0 key) z 0) (members-are ms (length ms / 69) refl)

  pub stranger : f ≡ None → None ≡ standing_of (members_of ms) key
  unfolding standing_of
  stranger g = sym (rw (sym found_in ∙ g, standing_of))

  module _ (i : ℕ) (g : f ≡ Some i) where
    pub member-fits : 0 + i * 69 + 69 ≤ length ms
    member-fits = found-fits 69 (has_part 0 key) ms 0 (length ms / 69) f i e g (members-fit ms (length ms / 69) refl)

    pub member-reach : (r : List ℕ) → r ≡ item_in 69 ms 0 i → 36 ≤ length r
    member-reach r q = omega (arith, found-length 69 (has_part 0 key) ms 0 (length ms / 69) f i e g (members-fit ms (length ms / 69) refl) r q)

    pub member : (r : List ℕ) (s : ℕ) → r ≡ item_in 69 ms 0 i → s ≡ stake_in r → Some (record { place = i; stake = s }) ≡ standing_of (members_of ms) key
    unfolding standing_of
    member r s q p =
        let w : r ≡ get_or (members_of ms) i [] =
        found-is 69 (has_part 0 key) ms 0 (length ms / 69) f i e g (members-fit ms (length ms / 69) refl) r q
        ∙ ap (λ (z : List (List ℕ)). get_or z i []) (members-are ms (length ms / 69) refl) in
        sym (rw (sym found_in ∙ g, standing_of, ← w, ← p))

module _ (ms key : List ℕ) (x : Option Standing) (e : x ≡ standing_of (members_of ms) key) where
  pub stake-none : x ≡ None → 0 ≡ stake_of (members_of ms) key
  unfolding stake_of
  stake-none g = sym (rw (sym e ∙ g))

  pub stake-some : (m : Standing) → x ≡ Some m → m.stake ≡ stake_of (members_of ms) key
  unfolding stake_of
  stake-some m g = sym (rw (sym e ∙ g))

-- a member stands at a place of the list
pub standing-below : (ms : List (List ℕ)) (key : List ℕ) (m : Standing) → standing_of ms key ≡ Some m → m.place < length ms
unfolding standing_of
standing-below ms key m = go (first_of (has_part 0 key) ms 0) refl where
  go : (f : Option ℕ) → first_of (has_part 0 key) ms 0 ≡ f → standing_of ms key ≡ Some m → m.place < length ms
  go (Some j) e h =
      let y = first_found (has_part 0 key) ms 0 j e in
      let q : j ≡ m.place = cc (rw (e, standing_of) at h) in
      omega (arith, y.at, y.within)
  go None e h = let z : ◌≡◌ {A = ℕ} 0 1 = cc (rw (e, standing_of) at h) in absurd (omega arith)

-- the leader's place is a place of the list
pub leader-below : (n round r : ℕ) → 1 ≤ n → r ≡ leader_place n round → r < n
unfolding leader_place
leader-below n round r h e = rw e (mod-lt round h)

pub leader-small : (ms : List ℕ) (round r : ℕ) → valid_members ms ≡ true → r ≡ leader_place (length ms / 69) round → r < 32
leader-small ms round r h e = let v = valid ms h in omega (arith, leader-below (length ms / 69) round r v.one e, v.few)
