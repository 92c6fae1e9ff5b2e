-- A certificate: header 3,402, digest 32, vote count 1, voter keys 64 x 32. Keys past the count mean nothing. Assumes nothing.
use Rattle.std.specs.Prelude.{ℕ, Bool, ◌&&◌, List, length, get_or, eqb, leb}
use Rattle.wire.specs.Bytes.{part}
use Rattle.wire.specs.Items.{items}
use Rattle.messages.specs.Header.{header_shape}

unfoldable pub header_of : List ℕ → List ℕ
header_of c = part c 0 3402

unfoldable pub digest_of : List ℕ → List ℕ
digest_of c = part c 3402 32

unfoldable pub vote_count : List ℕ → ℕ
vote_count c = get_or c 3434 0

-- the keys of the voters, in order
unfoldable pub voters_of : List ℕ → List (List ℕ)
voters_of c = items 32 c 3435 (vote_count c)

-- votes in a certificate 0 to 64
unfoldable pub certificate_shape : List ℕ → Bool
certificate_shape c = eqb (length c) 5483 && header_shape (header_of c) && leb (vote_count c) 64
