-- A vote: id 32, origin 32, author 32, round 8. The id and the origin are the header's. Assumes nothing.
use Rattle.std.specs.Prelude.{ℕ, Bool, ◌&&◌, List, length, eqb}
use Rattle.wire.specs.Bytes.{part, word}
use Rattle.messages.specs.Header.{lawful_round}

unfoldable pub vote_id : List ℕ → List ℕ
vote_id v = part v 0 32

unfoldable pub vote_origin : List ℕ → List ℕ
vote_origin v = part v 32 32

unfoldable pub vote_author : List ℕ → List ℕ
vote_author v = part v 64 32

unfoldable pub vote_round : List ℕ → ℕ
vote_round v = word (part v 96 8)

unfoldable pub vote_shape : List ℕ → Bool
vote_shape v = eqb (length v) 104 && lawful_round (vote_round v)
