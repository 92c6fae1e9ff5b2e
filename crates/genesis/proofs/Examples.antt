-- The definitions run on members with the keys 1, 2, 3 and their genesis. Assumes nothing.
use mathlib.Core.Path.{◌≡◌, refl}
use mathlib.Core.Bool.{true, false}
use mathlib.Core.List.{List, [], ◌∷◌, ◌++◌}
use Prim.Native.Nat.{ℕ}
use lib.ListN.{replicate}
use Rattle.wire.specs.Bytes.{part, alike, word, bytes}
use Rattle.wire.specs.Items.{chunks, items, first_of, has_part, key_of}
use Rattle.config.specs.Members.{members_of}
use Rattle.config.specs.Sample.{id_bytes, member_with, members_with}
use Rattle.genesis.specs.Genesis.{record_round, record_origin, record_digest, records_of, belongs, paired, distinct, valid_genesis}

-- a record: its key and its digest begin with these bytes
abbrev of : ℕ → ℕ → ℕ → List ℕ
of round key digest = bytes 4 round ++ ((key ∷ replicate 31 0) ++ (digest ∷ replicate 31 0))

abbrev two : List ℕ
two = members_with 1 (5 ∷ 6 ∷ [])

pub record Limits : Type 0 where
  pub right : valid_genesis two (of 0 1 8 ++ of 0 2 9) ≡ true
  pub digests-equal : valid_genesis two (of 0 1 8 ++ of 0 2 8) ≡ false
  pub turned : valid_genesis two (of 0 2 9 ++ of 0 1 8) ≡ false
  pub round-1 : valid_genesis two (of 0 1 8 ++ of 1 2 9) ≡ false
  pub one_less : valid_genesis two (of 0 1 8) ≡ false
  pub byte-over : valid_genesis two (of 0 1 8 ++ (of 0 2 9 ++ (0 ∷ []))) ≡ false

pub limits : Limits
unfolding valid_genesis paired distinct belongs record_round record_origin record_digest records_of members_of first_of has_part key_of alike part word bytes chunks items id_bytes member_with members_with
limits = record { right = refl; digests-equal = refl; turned = refl; round-1 = refl; one_less = refl; byte-over = refl }
