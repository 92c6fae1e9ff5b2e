-- The proposer's state, and what each step leaves in it: document 01, 'proposer'. Own key 32 bytes, round 4 from 32, parent count at 36, waiting count at
-- 37, parents 32 each from 38 as given, waiting digests with their worker ids, 36 each, from 1062 in the order in which they came. Assumes nothing.
use Rattle.std.specs.Prelude.{ℕ, ◌+◌, ◌*◌, ◌/◌, Bool, ◌&&◌, ◌||◌, List, [], ◌∷◌, ◌++◌, length, get_or, replicate, eqb, ltb, leb}
use Rattle.wire.specs.Bytes.{part, splice, word, bytes}
use Rattle.wire.specs.Items.{items, flat}

-- ---- what a state says
unfoldable pub own_in : List ℕ → List ℕ
own_in s = part s 0 32

unfoldable pub round_in : List ℕ → ℕ
round_in s = word (part s 32 4)

unfoldable pub parent_count : List ℕ → ℕ
parent_count s = get_or s 36 0

unfoldable pub waiting_count : List ℕ → ℕ
waiting_count s = get_or s 37 0

unfoldable pub parents_in : List ℕ → List (List ℕ)
parents_in s = items 32 s 38 (parent_count s)

unfoldable pub waiting_in : List ℕ → List (List ℕ)
waiting_in s = items 36 s 1062 (waiting_count s)

-- each digest adds 32
unfoldable pub payload_size : List ℕ → ℕ
payload_size s = 32 * length (waiting_in s)

-- 3,366 bytes, a round of at least 1, at most 32 parents and at most 64 waiting digests
unfoldable pub valid_state : List ℕ → Bool
valid_state s = eqb (length s) 3366 && leb 1 (round_in s) && leb (parent_count s) 32 && leb (waiting_count s) 64

-- parents are present and either the timer has run out or payload size is at least header_size
unfoldable pub due_header : ℕ → ℕ → List ℕ → Bool
due_header size timer s = ltb 0 (length (parents_in s)) && (eqb timer 1 || leb size (payload_size s))

unfoldable pub zeros : ℕ → List ℕ
zeros n = replicate n 0

-- ---- what a step leaves; all other bytes stay
-- the round becomes p + 1, with n parents: zeros in all their places
unfoldable pub next_round : List ℕ → ℕ → ℕ → List ℕ
next_round s p n = splice (splice (splice s 32 (bytes 4 (p + 1))) 36 (n ∷ [])) 38 (zeros 1024)

-- the round becomes p + 1 and the parents are replaced; zeros past them
unfoldable pub advanced : List ℕ → ℕ → List (List ℕ) → List ℕ
advanced s p ps = splice (next_round s p (length ps)) 38 (flat ps)

-- one waiting digest more, at the end
unfoldable pub added : List ℕ → List ℕ → ℕ → List ℕ
added s digest worker =
    splice (splice s (1062 + waiting_count s * 36) (digest ++ bytes 4 worker)) 37 ((waiting_count s + 1) ∷ [])

-- parents, digests and size are emptied: zeros
unfoldable pub emptied : List ℕ → List ℕ
emptied s = splice s 36 (zeros 3330)

-- digests handed in one behind the other
unfoldable pub digests_of : List ℕ → List (List ℕ)
digests_of bs = items 32 bs 0 (length bs / 32)
