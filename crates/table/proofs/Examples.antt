-- The definitions of `specs/Rows.antt` compute: a table of three rows of 5 bytes (round 4, a byte), with a place left. Assumes nothing.
use mathlib.Core.Path.{◌≡◌, refl}
use mathlib.Core.Bool.{true, false}
use mathlib.Core.List.{List, [], ◌∷◌}
use Prim.Native.Nat.{ℕ}
use Rattle.wire.specs.Bytes.{part, alike, word, bytes}
use Rattle.wire.specs.Items.{chunks, items, flat, first_of, has_part}
use Rattle.std.specs.Prelude.{Some, None}
use Rattle.table.specs.Rows.{count_of, places, shaped, rows_of, past_of, packed, appended}

abbrev table : List ℕ
table = 3 ∷ 0 ∷ 0 ∷ 0 ∷ 0 ∷ 0 ∷ 0 ∷ 0 ∷ 7 ∷ 0 ∷ 0 ∷ 0 ∷ 41 ∷ 6 ∷ 0 ∷ 0 ∷ 0 ∷ 42 ∷ 9 ∷ 0 ∷ 0 ∷ 0 ∷ 43 ∷ 5 ∷ 5 ∷ 5 ∷ 5 ∷ 5 ∷ []

pub record Examples : Type 0 where
  pub shape : shaped 5 table ≡ true
  pub shape-3 : shaped 3 table ≡ false
  pub rows : rows_of 5 table ≡ (7 ∷ 0 ∷ 0 ∷ 0 ∷ 41 ∷ []) ∷ (6 ∷ 0 ∷ 0 ∷ 0 ∷ 42 ∷ []) ∷ (9 ∷ 0 ∷ 0 ∷ 0 ∷ 43 ∷ []) ∷ []
  pub more : appended 5 table (8 ∷ 0 ∷ 0 ∷ 0 ∷ 44 ∷ []) ≡ 4 ∷ 0 ∷ 0 ∷ 0 ∷ 0 ∷ 0 ∷ 0 ∷ 0 ∷ 7 ∷ 0 ∷ 0 ∷ 0 ∷ 41 ∷ 6 ∷ 0 ∷ 0 ∷ 0 ∷ 42 ∷ 9 ∷ 0 ∷ 0 ∷ 0 ∷ 43 ∷ 8 ∷ 0 ∷ 0 ∷ 0 ∷ 44 ∷ []
  pub found : first_of (has_part 4 (43 ∷ [])) (rows_of 5 table) 0 ≡ Some 2
  pub nothing : first_of (has_part 4 (5 ∷ [])) (rows_of 5 table) 0 ≡ None

pub examples : Examples
unfolding count_of places shaped chunks items rows_of past_of flat packed appended first_of has_part part alike word bytes
examples = record { shape = refl; shape-3 = refl; rows = refl; more = refl; found = refl; nothing = refl }
