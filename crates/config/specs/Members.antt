-- A member, and a list of members. A member's row: key 32, stake 4, worker count 1, worker ids 8 x 4. Assumes nothing.
use Rattle.std.specs.Prelude.{ℕ, ◌/◌, Bool, true, false, ◌&&◌, List, length, get_or, eqb, leb}
use Rattle.wire.specs.Bytes.{part, word}
use Rattle.wire.specs.Items.{items, first_of}
use Rattle.std.specs.Prelude.{Option, Some, None}

-- all members of a list, in order
unfoldable pub members_of : List ℕ → List (List ℕ)
members_of ms = items 69 ms 0 (length ms / 69)

unfoldable pub stake_in : List ℕ → ℕ
stake_in member = word (part member 32 4)

unfoldable pub worker_count : List ℕ → ℕ
worker_count member = get_or member 36 0

-- the ids of its workers
unfoldable pub workers_in : List ℕ → List (List ℕ)
workers_in member = items 4 member 37 (worker_count member)

unfoldable pub is_worker : ℕ → List ℕ → Bool
is_worker id w = eqb (word w) id

abbrev pub some : Option ℕ → Bool
some (Some i) = true
some None = false

-- whether a member has a worker of this id
unfoldable pub has_worker : ℕ → List ℕ → Bool
has_worker id member = some (first_of (is_worker id) (workers_in member) 0)

-- each stake at least 1, 0 to 8 worker ids
unfoldable pub lawful : List ℕ → Bool
lawful member = leb 1 (stake_in member) && leb (worker_count member) 8
