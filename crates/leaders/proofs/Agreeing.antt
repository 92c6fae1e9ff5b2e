-- A valid setup's members as the ordering is agreed on them. Assumes nothing.
use mathlib.Core.Path.{◌≡◌, refl, sym, ap, ◌∙◌}
use mathlib.Core.Bool.{true}
use mathlib.Core.List.{List, []}
use Prim.Native.Nat.{ℕ, ◌+◌, ◌-◌, ◌*◌, ◌/◌, ◌≤◌, ◌<◌}
use native.Mathlib.Omega.{arith}
use lib.ListN.{length, get_or, drop, length-drop}
use Rattle.wire.specs.Items.{items, item_in}
use Rattle.wire.proofs.Lists.{item-is, item-fits, item-length}
use Rattle.config.specs.Members.{members_of, stake_in}
use Rattle.config.specs.Committee.{valid_setup, total}
use Rattle.config.proofs.Laws.{valid, valid-setup, length-members}
use Rattle.consensus.specs.Candidates.{edition1}
use Rattle.consensus.specs.Leaders.{total_stake}
use Rattle.consensus.proofs.Stakes.{stakes-at, stakes-many, stakes-total}
use Rattle.leaders.specs.Setup.{agreed_of}

module _ (s : List ℕ) (v : valid_setup s ≡ true) where
  pub setup-long : 8 ≤ length s
  setup-long = (valid-setup s v).long

  pub setup-some : (n : ℕ) → n ≡ (length s - 8) / 69 → 1 ≤ n
  setup-some n e = let l = length-drop 8 s in let o = (valid (drop 8 s) (valid-setup s v).members).one in omega arith

pub agreed-many : (s : List ℕ) → length (agreed_of s).stakes ≡ (length s - 8) / 69
unfolding agreed_of
agreed-many s = stakes-many (members_of (drop 8 s)) ∙ length-members (drop 8 s) ∙ ap (λ (n : ℕ). n / 69) (length-drop 8 s)

pub agreed-total : (s : List ℕ) → total_stake (agreed_of s).stakes ≡ total (members_of (drop 8 s))
unfolding agreed_of
agreed-total s = stakes-total (members_of (drop 8 s))

pub agreed-edition : (s : List ℕ) → (agreed_of s).candidates ≡ edition1
unfolding agreed_of
agreed-edition s = refl

-- ---- a member's stake

module _ (s : List ℕ) (o : ℕ) (v : valid_setup s ≡ true) (h : o < (length s - 8) / 69) where
  all_fit : 8 + (length s - 8) / 69 * 69 ≤ length s
  all_fit = let l = setup-long s v in omega arith

  pub member-fits : 8 + o * 69 + 69 ≤ length s
  member-fits = item-fits 69 s 8 ((length s - 8) / 69) all_fit o h

  pub member-reach : (m : List ℕ) → m ≡ item_in 69 s 8 o → 36 ≤ length m
  member-reach m e = let l = item-length 69 s 8 ((length s - 8) / 69) all_fit o h in let k = ap length e in omega arith

  pub member-stake : (m : List ℕ) (x : ℕ) → m ≡ item_in 69 s 8 o → x ≡ stake_in m → x ≡ get_or (agreed_of s).stakes o 0
  unfolding agreed_of members_of items
  member-stake m x e f =
      let k : length (drop 8 s) / 69 ≡ (length s - 8) / 69 = ap (λ (n : ℕ). n / 69) (length-drop 8 s) in
      let l : length (members_of (drop 8 s)) ≡ (length s - 8) / 69 = length-members (drop 8 s) ∙ k in
      let p : item_in 69 s 8 o ≡ get_or (items 69 s 8 (length (drop 8 s) / 69)) o [] =
      item-is 69 s 8 ((length s - 8) / 69) all_fit o h ∙ ap (λ (n : ℕ). get_or (items 69 s 8 n) o []) (sym k) in
      f ∙ ap stake_in (e ∙ p) ∙ sym (stakes-at (members_of (drop 8 s)) o (omega arith))
