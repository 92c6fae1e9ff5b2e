-- The header that is made of a state: document 01, 'proposer'. Assumes nothing.
use Rattle.std.specs.Prelude.{◌≡◌, ℕ, ◌+◌, ◌-◌, ◌*◌, List, [], ◌∷◌, length, get_or}
use Rattle.wire.specs.Bytes.{part, splice, word, bytes}
use Rattle.wire.specs.Items.{items, flat}
use Rattle.proposer.specs.Sorted.{sorted_once}
use Rattle.proposer.specs.State.{zeros, own_in, round_in, parents_in, waiting_in}

-- a header with a list of items from a place, and their number at another
unfoldable pub with_list : List ℕ → ℕ → ℕ → List (List ℕ) → List ℕ
with_list h count at rs = splice (splice h at (flat rs)) count (length rs ∷ [])

-- 3,402 bytes: zeros for the id, the author from 32, the round in 8 bytes from 64, the parents from 74 and their number at 72, the payload from 1098 and
-- its number at 73; zeros past the lists
unfoldable pub header_of : List ℕ → ℕ → List (List ℕ) → List (List ℕ) → List ℕ
header_of author round ps qs = with_list (with_list (splice (splice (zeros 3402) 32 author) 64 (bytes 8 round)) 72 74 ps) 73 1098 qs

-- by the own key, for the current round; parents and payload ascending, each once, a digest given twice with the later worker id
unfoldable pub header_made : List ℕ → List ℕ
header_made s = header_of (own_in s) (round_in s) (sorted_once (parents_in s)) (sorted_once (waiting_in s))

-- WHAT A HEADER SAYS, field by field: the fields cover every byte
pub record Says (h by : List ℕ) (r : ℕ) (ps qs : List (List ℕ)) : Type 0 where
  pub size : length h ≡ 3402
  pub id : part h 0 32 ≡ zeros 32
  pub author : part h 32 32 ≡ by
  pub round : word (part h 64 8) ≡ r
  pub parents : items 32 h 74 (get_or h 72 0) ≡ ps
  pub payload : items 36 h 1098 (get_or h 73 0) ≡ qs
  pub past_parents : part h (74 + length ps * 32) (1024 - length ps * 32) ≡ zeros (1024 - length ps * 32)
  pub past_payload : part h (1098 + length qs * 36) (2304 - length qs * 36) ≡ zeros (2304 - length qs * 36)
