-- What a call of `ordering_add` takes: document 01, 'Sizes and domain'. Assumes nothing.
use Rattle.std.specs.Prelude.{Bool, ◌&&◌, List, ℕ, ◌*◌, ◌/◌, ◌%◌, eqb, leb, length}
use Rattle.wire.specs.Items.{items, keys, ascends}
use Rattle.table.specs.Rows.{places}
use Rattle.held.specs.Rows.{held_shape}

-- 0 to 32 parents, no byte over, digests strictly ascending
unfoldable pub valid_parents : List ℕ → Bool
valid_parents ps = eqb (length ps % 32) 0 && leb (length ps / 32) 32 && ascends (keys (items 32 ps 0 (length ps / 32)))

-- origin and digest of 32 bytes, a round from 1 to 4,294,967,295, lawful parents
unfoldable pub valid_certificate : List ℕ → ℕ → List ℕ → List ℕ → Bool
unfolding valid_parents
valid_certificate o r d ps = eqb (length o) 32 && eqb (length d) 32 && leb 1 r && leb r 4294967295 && valid_parents ps

-- a buffer or room of at least so many places of one size, no byte over
unfoldable pub has_places : ℕ → ℕ → List ℕ → Bool
has_places size n room = eqb (length room % size) 0 && leb n (length room / size)

-- n members' state and table; list buffer, and rooms for walk, sort and link test, with at least as many places as the table
unfoldable pub valid_lent : ℕ → List ℕ → List ℕ → List ℕ → List ℕ → List ℕ → List ℕ → Bool
unfolding has_places
valid_lent n st t list walk sort link =
    eqb (length st) (n * 4)
    && held_shape n t
    && has_places 37 (places 1062 t) list
    && has_places 8 (places 1062 t) walk
    && has_places 8 (places 1062 t) sort
    && has_places 8 (places 1062 t) link
