-- The laws of `specs/Genesis.antt`. Assumes nothing.
use mathlib.Core.Path.{◌≡◌, refl, sym, ap, ◌∙◌}
use mathlib.Core.Bool.{Bool, true, false, not, ◌&&◌}
use mathlib.Core.List.{List, [], ◌∷◌}
use Prim.Native.Nat.{ℕ, zero, suc, ◌+◌, ◌-◌, ◌*◌, ◌/◌, ◌≤◌, ◌<◌}
use native.Mathlib.Numerals.{add-one}
use native.Mathlib.Omega.{arith}
use lib.ListN.{length, drop, drop_of_length-le}
use lib.Seq.{drop-cons}
use borrow.Author.Tests.{eq-eqb, ne_eqb, eqb-true, not-true, not-false}
use Rattle.wire.specs.Bytes.{part, word, alike}
use Rattle.wire.specs.Items.{items, item_in, first_of, has_part, key_of}
use Rattle.std.specs.Prelude.{Option, Some, None}
use Rattle.std.specs.List.{list_all, zip, range_with_len}
use Rattle.std.specs.Option.{is_some}
use Rattle.wire.proofs.Laws.{length_part}
use Rattle.wire.proofs.Chains.{both-tests}
use Rattle.wire.proofs.Lists.{item-is, item-length, length-items, items-drop}
use Rattle.config.specs.Members.{members_of}
use Rattle.config.proofs.Laws.{both, members-are, length-members}
use Rattle.genesis.specs.Genesis.{record_round, record_origin, record_digest, records_of, belongs, paired, distinct, valid_genesis}

-- ---- a record of a member
module _ (member known : List ℕ) (round : ℕ) (e : round ≡ word (part known 0 4)) where
  pub other-round : (round ≡ 0 → ⊥) → false ≡ belongs member known
  unfolding belongs record_round
  other-round h = sym (rw (ne_eqb (word (part known 0 4)) 0 (λ z. h (e ∙ z))))

  pub round-0 : (b : Bool) → round ≡ 0 → b ≡ alike (part known 4 32) (part member 0 32) → b ≡ belongs member known
  unfolding belongs record_round record_origin key_of
  round-0 b h f = f ∙ sym (rw (eq-eqb (word (part known 0 4)) 0 (sym e ∙ h)))

-- ---- one record per member
pub paired-is : (ms rs : List (List ℕ)) → length ms ≡ length rs → list_all (λ (p : List ℕ × List ℕ). belongs p.0 p.1) (zip ms rs) ≡ paired ms rs
unfolding paired
paired-is [] [] e = refl
paired-is [] (r ∷ rs) e = absurd (omega arith)
paired-is (m ∷ ms) [] e = absurd (omega arith)
paired-is (m ∷ ms) (r ∷ rs) e = ap (λ (b : Bool). belongs m r && b) (paired-is ms rs (omega arith)) ∙ both-tests (belongs m r) (paired ms rs)

-- ---- all different
-- whether no later record has the digest of record i
abbrev pub alone : List ℕ → ℕ → ℕ → Bool
alone g n i = not (is_some (first_of (has_part 36 (record_digest (item_in 68 g 0 i))) (items 68 g ((i + 1) * 68) (n - (i + 1))) 0))

none-later : (f : Option ℕ) (b : Bool) → (not (is_some f) && b) ≡ elim f [ Some i ↦ false | None ↦ b ]
none-later (Some i) b = refl
none-later None b = refl

pub later-fits : (g : List ℕ) (n i : ℕ) → n * 68 ≤ length g → i < n → (i + 1) * 68 + (n - (i + 1)) * 68 ≤ length g
later-fits g n i h l = omega arith

module _ (g : List ℕ) (n : ℕ) (h : n * 68 ≤ length g) where
  rest : (i : ℕ) → i < n → items 68 g ((i + 1) * 68) (n - (i + 1)) ≡ drop (i + 1) (items 68 g 0 n)
  rest i l = sym (items-drop 68 g 0 n (i + 1) ((i + 1) * 68) (n - (i + 1)) (omega arith) (omega arith) refl)

  split : (i : ℕ) → i < n → drop i (items 68 g 0 n) ≡ item_in 68 g 0 i ∷ drop (i + 1) (items 68 g 0 n)
  split i l =
      let q = item-is 68 g 0 n (omega arith) i l in
      rw (drop-cons (items 68 g 0 n) i [] (omega (arith, length-items 68 g 0 n)), q, add-one)

  alone-from : (m i : ℕ) → i + m ≡ n → list_all (alone g n) (range_with_len i m) ≡ distinct (drop i (items 68 g 0 n))
  unfolding distinct
  alone-from zero i e = sym (ap distinct (drop_of_length-le (items 68 g 0 n) {i = i} (omega (arith, length-items 68 g 0 n))))
  alone-from (suc m) i e =
      ap (λ (b : Bool). alone g n i && b) (alone-from m (i + 1) (omega arith))
      ∙ rw (rest i (omega arith)) (none-later (first_of (has_part 36 (record_digest (item_in 68 g 0 i))) (drop (i + 1) (items 68 g 0 n)) 0) (distinct (drop (i + 1) (items 68 g 0 n))))
      ∙ sym (ap distinct (split i (omega arith)))

  pub alone-all : list_all (alone g n) (range_with_len 0 n) ≡ distinct (items 68 g 0 n)
  alone-all = alone-from n 0 (omega arith)

-- ---- the whole
pub whole-records : (g : List ℕ) (n : ℕ) → length g ≡ n * 68 → items 68 g 0 n ≡ records_of g
unfolding records_of
whole-records g n e = let q : length g / 68 ≡ n = omega arith in rw q

module _ (ms g : List ℕ) where
  pub wrong-length : (length g ≡ length ms / 69 * 68 → ⊥) → false ≡ valid_genesis ms g
  unfolding valid_genesis
  wrong-length h = sym (rw (ne_eqb (length g) (length (members_of ms) * 68) (λ z. h (z ∙ ap (λ (k : ℕ). k * 68) (length-members ms)))))

  module _ (l : length g ≡ length ms / 69 * 68) (a : Bool) (ea : a ≡ paired (items 69 ms 0 (length ms / 69)) (items 68 g 0 (length ms / 69))) where
    right-length : length g ≡ length (members_of ms) * 68
    right-length = l ∙ ap (λ (k : ℕ). k * 68) (sym (length-members ms))

    pairs : (b : Bool) → a ≡ b → paired (members_of ms) (records_of g) ≡ b
    pairs b q = sym (ea ∙ rw (members-are ms (length ms / 69) refl, whole-records g (length ms / 69) l)) ∙ q

    pub not-paired : not a ≡ true → false ≡ valid_genesis ms g
    unfolding valid_genesis
    not-paired h = sym (rw (eq-eqb _ _ right-length, pairs false (not-true a h)))

    pub last-test : (b : Bool) → not a ≡ false → b ≡ distinct (items 68 g 0 (length ms / 69)) → b ≡ valid_genesis ms g
    unfolding valid_genesis
    last-test b h f =
        f ∙ ap distinct (whole-records g (length ms / 69) l) ∙ sym (rw (eq-eqb _ _ right-length, pairs true (not-false a h)))

-- what the test says
pub record ValidGenesis (ms g : List ℕ) : Type 0 where
  pub size : length g ≡ length ms / 69 * 68
  pub pairs : paired (members_of ms) (records_of g) ≡ true
  pub differ : distinct (records_of g) ≡ true

pub valid-genesis : (ms g : List ℕ) → valid_genesis ms g ≡ true → ValidGenesis ms g
unfolding valid_genesis
valid-genesis ms g h =
    let a = both _ _ h in
    let b = both _ _ a.0 in
    record { size = eqb-true _ _ b.0 ∙ ap (λ (k : ℕ). k * 68) (length-members ms); pairs = b.1; differ = a.1 }

-- ---- a record's digest, searched for in the later ones
pub later-record : (g : List ℕ) (n i : ℕ) (r : List ℕ) → n * 68 ≤ length g → i < n → r ≡ item_in 68 g 0 i → length r ≡ 68
later-record g n i r h l e = ap length e ∙ item-length 68 g 0 n (omega arith) i l

pub digest-length : (r d : List ℕ) → length r ≡ 68 → d ≡ record_digest r → length d ≡ 32
unfolding record_digest
digest-length r d h e = ap length e ∙ length_part r 36 32 (omega arith)

pub digest-fits : (r d : List ℕ) → length r ≡ 68 → d ≡ record_digest r → 36 + length d ≤ 68
digest-fits r d h e = omega (arith, digest-length r d h e)

pub later-is : (r d : List ℕ) (rs : List (List ℕ)) (f : Option ℕ) (x : List ℕ) → r ≡ x → d ≡ record_digest r → f ≡ first_of (has_part 36 d) rs 0 → f ≡ first_of (has_part 36 (record_digest x)) rs 0
later-is r d rs f x e q h = h ∙ rw (q, e)
