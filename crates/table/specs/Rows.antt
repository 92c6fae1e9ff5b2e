-- The one table: a count (8 bytes, lowest first), then rows of one size. The rows below the count are in use, so a table is a list of
-- rows. Assumes nothing.
use Rattle.std.specs.Prelude.{ℕ, ◌+◌, ◌-◌, ◌*◌, ◌/◌, ◌%◌, Bool, true, false, List, [], ◌∷◌, ◌++◌, length, take, drop, set, eqb, ltb, leb}
use Rattle.wire.specs.Bytes.{part, word, bytes}
use Rattle.wire.specs.Items.{items, has_part, flat}

-- ---- a table as a list
-- how many rows are in use
unfoldable pub count_of : List ℕ → ℕ
count_of t = word (part t 0 8)

-- how many rows there is room for
unfoldable pub places : ℕ → List ℕ → ℕ
places size t = (length t - 8) / size

-- whether the bytes are a table: a count and one place or more, no byte over, and not more rows in use than there are places
unfoldable pub shaped : ℕ → List ℕ → Bool
shaped size t =
    elim (ltb (length t) 8) [
      | true ↦ false
      | false ↦
          elim (eqb size 0) [
            | true ↦ false
            | false ↦
                elim (eqb ((length t - 8) % size) 0) [
                  | true ↦ elim (eqb (places size t) 0) [ true ↦ false | false ↦ leb (count_of t) (places size t) ]
                  | false ↦ false
                ]
          ]
    ]

-- THE TABLE AS A LIST: the rows in use, in the order in which they came
unfoldable pub rows_of : ℕ → List ℕ → List (List ℕ)
rows_of size t = items size t 8 (count_of t)

-- the bytes past the rows in use
unfoldable pub past_of : ℕ → List ℕ → List ℕ
past_of size t = drop (8 + count_of t * size) t

-- the bytes of a table whose rows in use are rs, with rest past them
unfoldable pub packed : List (List ℕ) → List ℕ → List ℕ
packed rs rest = bytes 8 (length rs) ++ (flat rs ++ rest)

-- ---- what a write leaves
-- one row more, at the end
unfoldable pub appended : ℕ → List ℕ → List ℕ → List ℕ
appended size t row = packed (rows_of size t ++ (row ∷ [])) (drop size (past_of size t))

-- row i changed
unfoldable pub with_row : ℕ → List ℕ → ℕ → List ℕ → List ℕ
with_row size t i row = take 8 t ++ (flat (set (rows_of size t) i row) ++ past_of size t)

-- ---- a row's round stands first
unfoldable pub round_of : List ℕ → ℕ
round_of row = word (part row 0 4)

unfoldable pub has_round_part : ℕ → ℕ → List ℕ → List ℕ → Bool
has_round_part round at what row = elim (eqb (round_of row) round) [ true ↦ has_part at what row | false ↦ false ]
