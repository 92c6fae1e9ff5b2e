-- A list in bytes: how many in one byte, at c, and the items of one size from at. Assumes nothing.
use Rattle.std.specs.Prelude.{ℕ, ◌+◌, ◌*◌, List, get_or, set}
use Rattle.wire.specs.Bytes.{splice}
use Rattle.wire.specs.Items.{items}

unfoldable pub listed : ℕ → ℕ → ℕ → List ℕ → List (List ℕ)
listed c at size t = items size t at (get_or t c 0)

-- an item more: behind the last, and the count is one more. Every other byte is as it was
unfoldable pub added : ℕ → ℕ → ℕ → List ℕ → List ℕ → List ℕ
added c at size t x = set (splice t (at + get_or t c 0 * size) x) c (get_or t c 0 + 1)
