-- The rows that a test keeps, and the bytes that are left then. Assumes nothing.
use Rattle.std.specs.Prelude.{ℕ, ◌+◌, ◌-◌, ◌*◌, Bool, true, false, List, ◌++◌, length, replicate, leb}
use Rattle.wire.specs.Bytes.{splice, bytes}
use Rattle.wire.specs.Items.{item_in, keeps}
use Rattle.table.specs.Rows.{count_of, rows_of, past_of, packed, round_of}

-- how many rows go
unfoldable pub went : ℕ → (List ℕ → Bool) → List ℕ → ℕ
went size keep t = count_of t - length (keeps keep (rows_of size t))

-- THE TABLE THEN: the kept rows moved together, zeros up to the old count, and the rest as it was
unfoldable pub kept : ℕ → (List ℕ → Bool) → List ℕ → List ℕ
kept size keep t = packed (keeps keep (rows_of size t)) (replicate (went size keep t * size) 0 ++ past_of size t)

-- whether a row's round is round or later
unfoldable pub from_round : ℕ → List ℕ → Bool
from_round round row = leb round (round_of row)

-- ---- the steps of a loop that keeps rows
-- a turn: row i moved to place m where the test says so, and how many are kept then
unfoldable pub moved : ℕ → List ℕ → ℕ → ℕ → Bool → List ℕ
moved size t i m b = elim b [ true ↦ splice t (8 + m * size) (item_in size t 8 i) | false ↦ t ]

unfoldable pub counted : ℕ → Bool → ℕ
counted m b = elim b [ true ↦ m + 1 | false ↦ m ]

-- its end: zeros from place m to place n, and the count m
unfoldable pub finished : ℕ → List ℕ → ℕ → ℕ → List ℕ
finished size t n m = splice (splice t (8 + m * size) (replicate ((n - m) * size) 0)) 0 (bytes 8 m)
