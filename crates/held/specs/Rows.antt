-- The commit table's bytes and the state's as the ordering's definitions have them. A row of the table: round 4, member index 1, parent
-- count 1, digest 32, parents 32 x 32. The state: each member's last committed round in 4 bytes. Assumes nothing.
use Rattle.std.specs.Prelude.{ℕ, ◌-◌, ◌*◌, ◌/◌, Bool, true, false, not, ◌&&◌, ◌||◌, List, [], ◌∷◌, ◌++◌, map, length, get_or, replicate, eqb, ltb, leb}
use Rattle.wire.specs.Bytes.{part, bytes}
use Rattle.wire.specs.Items.{items, flat, all_of}
use Rattle.table.specs.Rows.{count_of, round_of, rows_of, places, shaped, with_row, appended}
use Rattle.room.specs.Numbers.{rounds_of}
use Rattle.consensus.specs.Table.{Cert, State, pair_place}

-- ---- a row

unfoldable pub origin_in : List ℕ → ℕ
origin_in row = get_or row 4 0

unfoldable pub parent_count : List ℕ → ℕ
parent_count row = get_or row 5 0

unfoldable pub digest_in : List ℕ → List ℕ
digest_in row = part row 6 32

unfoldable pub parents_in : List ℕ → List (List ℕ)
unfolding parent_count
parents_in row = items 32 row 38 (parent_count row)

-- the certificate of a row
unfoldable pub cert_of : List ℕ → Cert
unfolding origin_in digest_in parents_in
cert_of row = record { origin = origin_in row; round = round_of row; digest = digest_in row; parents = parents_in row }

-- ---- table and state

-- THE TABLE AS THE DEFINITIONS' LIST: the certificates of the rows in use, in the order in which they came
unfoldable pub held_of : List ℕ → List Cert
unfolding cert_of
held_of t = map cert_of (rows_of 1062 t)

unfoldable pub lasts_of : List ℕ → List ℕ
lasts_of state = rounds_of state

unfoldable pub state_of : List ℕ → List ℕ → State
unfolding held_of lasts_of
state_of state t = record { last = lasts_of state; held = held_of t }

-- ---- shape: a member of the n, not over 32 parents, and none in round 0

unfoldable pub lawful_row : ℕ → List ℕ → Bool
unfolding origin_in parent_count
lawful_row n row = ltb (origin_in row) n && leb (parent_count row) 32 && (not (eqb (round_of row) 0) || eqb (parent_count row) 0)

-- a table of such rows, with more places than members
unfoldable pub held_shape : ℕ → List ℕ → Bool
unfolding lawful_row
held_shape n t = shaped 1062 t && ltb n (places 1062 t) && all_of (lawful_row n) (rows_of 1062 t)

-- ---- a certificate put in

-- a certificate whose parents' digests stand one behind the other
unfoldable pub cert_with : ℕ → ℕ → List ℕ → List ℕ → Cert
cert_with o r d ps = record { origin = o; round = r; digest = d; parents = items 32 ps 0 (length ps / 32) }

-- the bytes of a certificate's row: what stands before the parents, the parents, and zeros past them
unfoldable pub head_of : ℕ → ℕ → ℕ → List ℕ → List ℕ
head_of o r k d = bytes 4 r ++ ((o ∷ k ∷ []) ++ d)

unfoldable pub row_of : Cert → List ℕ
unfolding head_of
row_of x =
    head_of x.origin x.round (length x.parents) x.digest
    ++ (flat x.parents ++ replicate (1024 - length x.parents * 32) 0)

-- its row in the place of the row that has its origin and round, or behind the last
unfoldable pub table_with : Cert → List ℕ → List ℕ
unfolding held_of row_of
table_with x t =
    elim (ltb (pair_place x.origin x.round (held_of t)) (count_of t)) [
      | true ↦ with_row 1062 t (pair_place x.origin x.round (held_of t)) (row_of x)
      | false ↦ appended 1062 t (row_of x)
    ]
