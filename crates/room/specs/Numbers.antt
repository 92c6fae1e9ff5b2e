-- Lent bytes as a list of numbers of one size. Assumes nothing.
use Rattle.std.specs.Prelude.{ℕ, ◌/◌, ◌≡◌, List, map, length, set}
use Rattle.wire.specs.Bytes.{word}
use Rattle.wire.specs.Items.{items}

-- n numbers of size bytes each
unfoldable pub values_of : ℕ → List ℕ → ℕ → List ℕ
values_of size xs n = map word (items size xs 0 n)

-- a room: numbers of 8 bytes
unfoldable pub numbers_of : List ℕ → List ℕ
unfolding values_of
numbers_of room = values_of 8 room (length room / 8)

-- rounds: numbers of 4 bytes
unfoldable pub rounds_of : List ℕ → List ℕ
unfolding values_of
rounds_of xs = values_of 4 xs (length xs / 4)

-- number k is x now, and the others are as they were
pub record Put (values : List ℕ → List ℕ) (xs : List ℕ) (k x : ℕ) (after : List ℕ) : Type 0 where
  pub is : values after ≡ set (values xs) k x
  pub size : length after ≡ length xs
