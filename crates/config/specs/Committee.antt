-- The committee: document 01, 'Sizes and domain', Members, and 'config'. Assumes nothing.
use Rattle.std.specs.Prelude.{ℕ, ◌+◌, ◌*◌, ◌/◌, ◌%◌, Bool, ◌&&◌, List, [], length, get_or, drop, eqb, leb}
use Rattle.wire.specs.Bytes.{part, word}
use Rattle.wire.specs.Items.{first_of, has_part, sum_of, all_of, keys, ascends}
use Rattle.config.specs.Members.{members_of, stake_in, lawful}
use Rattle.config.specs.declared.committee.Standing.{Standing}
use Rattle.std.specs.Prelude.{Option, Some, None}

-- the total T of all stakes
unfoldable pub total : List (List ℕ) → ℕ
total ms = sum_of stake_in ms

-- for total T, quorum is 2T/3 + 1 and validity (T + 2)/3, whole division
unfoldable pub quorum : ℕ → ℕ
quorum t = 2 * t / 3 + 1

unfoldable pub validity : ℕ → ℕ
validity t = (t + 2) / 3

-- 1 to 32 members, keys of 32 bytes strictly ascending, each lawful, total at most 16,777,216; no byte over
unfoldable pub valid_members : List ℕ → Bool
valid_members ms =
    eqb (length ms % 69) 0
    && leb 1 (length ms / 69)
    && leb (length ms / 69) 32
    && ascends (keys (members_of ms))
    && all_of lawful (members_of ms)
    && leb (total (members_of ms)) 16777216

-- the depth, 0 to 4,294,967,295, in 8 bytes, then the members
unfoldable pub depth_of : List ℕ → ℕ
depth_of setup = word (part setup 0 8)

unfoldable pub valid_setup : List ℕ → Bool
valid_setup setup = leb 8 (length setup) && leb (depth_of setup) 4294967295 && valid_members (drop 8 setup)

-- a key is a member at a place, with a stake, or a stranger
unfoldable pub standing_of : List (List ℕ) → List ℕ → Option Standing
standing_of ms key = elim (first_of (has_part 0 key) ms 0) [ Some i ↦ Some (record { place = i; stake = stake_in (get_or ms i []) }) | None ↦ None ]

-- a non-member's stake is 0
abbrev pub stake_for : Option Standing → ℕ
stake_for (Some m) = m.stake
stake_for None = 0

unfoldable pub stake_of : List (List ℕ) → List ℕ → ℕ
stake_of ms key = stake_for (standing_of ms key)

-- the leader of round R is the member at place R mod the member count
unfoldable pub leader_place : ℕ → ℕ → ℕ
leader_place n round = round % n
