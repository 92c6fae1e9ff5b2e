-- A header: id 32, author 32, round 8, parent count 1, payload count 1, parents 32 x 32, payload 64 x (digest 32, worker 4). What stands
-- past the counts means nothing. Assumes nothing.
use Rattle.std.specs.Prelude.{ℕ, Bool, ◌&&◌, List, length, get_or, eqb, leb}
use Rattle.wire.specs.Bytes.{part, word}
use Rattle.wire.specs.Items.{items, keys, ascends}

unfoldable pub id_of : List ℕ → List ℕ
id_of h = part h 0 32

unfoldable pub author_of : List ℕ → List ℕ
author_of h = part h 32 32

unfoldable pub round_of : List ℕ → ℕ
round_of h = word (part h 64 8)

unfoldable pub parent_count : List ℕ → ℕ
parent_count h = get_or h 72 0

unfoldable pub payload_count : List ℕ → ℕ
payload_count h = get_or h 73 0

-- the digests of the parents, in order
unfoldable pub parents_of : List ℕ → List (List ℕ)
parents_of h = items 32 h 74 (parent_count h)

-- the payload, in order: each a digest and a worker id
unfoldable pub payload_of : List ℕ → List (List ℕ)
payload_of h = items 36 h 1098 (payload_count h)

unfoldable pub digest_in : List ℕ → List ℕ
digest_in p = part p 0 32

unfoldable pub worker_in : List ℕ → ℕ
worker_in p = word (part p 32 4)

-- rounds 1 to 4,294,967,295
unfoldable pub lawful_round : ℕ → Bool
lawful_round round = leb 1 round && leb round 4294967295

-- parents 0 to 32 and payload 0 to 64 items, digests strictly ascending
unfoldable pub header_shape : List ℕ → Bool
header_shape h =
    eqb (length h) 3402
    && lawful_round (round_of h)
    && leb (parent_count h) 32
    && leb (payload_count h) 64
    && ascends (keys (parents_of h))
    && ascends (keys (payload_of h))
