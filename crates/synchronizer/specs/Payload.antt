-- Payload: document 01, 'synchronizer': nothing is missing for an own header; otherwise all missing pairs. Assumes nothing.
use Rattle.std.specs.Prelude.{Bool, true, false, List, [], ℕ, ◌/◌, length}
use Rattle.wire.specs.Bytes.{alike}
use Rattle.wire.specs.Items.{items, first_of, has_part, keeps}
use Rattle.std.specs.Prelude.{Some, None}
use Rattle.messages.specs.Header.{author_of, payload_of}

-- the pairs of digest and worker id that the own workers have
unfoldable pub pairs_of : List ℕ → List (List ℕ)
pairs_of ps = items 36 ps 0 (length ps / 36)

-- a payload item, digest and worker id, that is no such pair
unfoldable pub unpaired : List (List ℕ) → List ℕ → Bool
unpaired pairs item = elim (first_of (has_part 0 item) pairs 0) [ Some i ↦ false | None ↦ true ]

-- the missing pairs, in payload order
unfoldable pub missing_payload : List ℕ → List (List ℕ) → List ℕ → List (List ℕ)
missing_payload own pairs h = elim (alike (author_of h) own) [ true ↦ [] | false ↦ keeps (unpaired pairs) (payload_of h) ]
