-- The byte strings for hashing: document 01, 'messages'. Assumes nothing.
use Rattle.std.specs.Prelude.{ℕ, List, ◌++◌, map}
use Rattle.wire.specs.Bytes.{bytes}
use Rattle.wire.specs.Items.{flat}
use Rattle.messages.specs.Header.{author_of, round_of, parents_of, payload_of, digest_in, worker_in}

-- a payload digest with its worker id as 4 bytes, low first
unfoldable pub payload_item : List ℕ → List ℕ
payload_item p = digest_in p ++ bytes 4 (worker_in p)

-- header: author, round as 8 bytes low first, each payload digest with its worker id, each parent
unfoldable pub header_string : List ℕ → List ℕ
header_string h = author_of h ++ (bytes 8 (round_of h) ++ (flat (map payload_item (payload_of h)) ++ flat (parents_of h)))

-- vote and certificate: id, round, origin, 72 bytes
unfoldable pub vote_string : List ℕ → ℕ → List ℕ → List ℕ
vote_string id round origin = id ++ (bytes 8 round ++ origin)
