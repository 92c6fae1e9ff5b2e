-- The definitions of `specs/Kept.antt` compute: of three rows of 5 bytes (round 4, a byte) those from round 7 on are kept. Assumes nothing.
use mathlib.Core.Path.{◌≡◌, refl}
use mathlib.Core.List.{[], ◌∷◌}
use Rattle.wire.specs.Bytes.{part, word, bytes}
use Rattle.wire.specs.Items.{chunks, items, keeps, flat}
use Rattle.table.specs.Rows.{count_of, rows_of, past_of, packed, round_of}
use Rattle.sweep.specs.Kept.{went, kept, from_round}

pub from-7 : kept 5 (from_round 7) (3 ∷ 0 ∷ 0 ∷ 0 ∷ 0 ∷ 0 ∷ 0 ∷ 0 ∷ 7 ∷ 0 ∷ 0 ∷ 0 ∷ 41 ∷ 6 ∷ 0 ∷ 0 ∷ 0 ∷ 42 ∷ 9 ∷ 0 ∷ 0 ∷ 0 ∷ 43 ∷ 5 ∷ 5 ∷ 5 ∷ 5 ∷ 5 ∷ [])
    ≡ 2 ∷ 0 ∷ 0 ∷ 0 ∷ 0 ∷ 0 ∷ 0 ∷ 0 ∷ 7 ∷ 0 ∷ 0 ∷ 0 ∷ 41 ∷ 9 ∷ 0 ∷ 0 ∷ 0 ∷ 43 ∷ 0 ∷ 0 ∷ 0 ∷ 0 ∷ 0 ∷ 5 ∷ 5 ∷ 5 ∷ 5 ∷ 5 ∷ []
unfolding count_of chunks items rows_of past_of flat packed keeps went kept from_round round_of part word bytes
from-7 = refl
