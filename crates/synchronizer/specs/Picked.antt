-- Some items of a list, one behind the other at the front of a buffer; the rest of the buffer stays. Assumes nothing.
use Rattle.std.specs.Prelude.{◌≡◌, Bool, true, false, List, ℕ, ◌+◌, ◌*◌, length}
use Rattle.wire.specs.Bytes.{splice}
use Rattle.wire.specs.Items.{flat}

-- how many there are, and the buffer then
pub record Picked (picks : List (List ℕ)) (out : List ℕ) (r : ℕ) (out' : List ℕ) : Type 0 where
  pub count : r ≡ length picks
  pub buffer : out' ≡ splice out 0 (flat picks)

-- a turn of the loop that picks: one item more where it is wanted
unfoldable pub put_count : ℕ → Bool → ℕ
put_count m wanted = elim wanted [ true ↦ m + 1 | false ↦ m ]

unfoldable pub put_buffer : ℕ → ℕ → List ℕ → Bool → List ℕ → List ℕ
put_buffer size m item wanted out = elim wanted [ true ↦ splice out (m * size) item | false ↦ out ]

pub record Put (size m : ℕ) (item : List ℕ) (wanted : Bool) (out : List ℕ) (r : ℕ) (out' : List ℕ) : Type 0 where
  pub count : r ≡ put_count m wanted
  pub buffer : out' ≡ put_buffer size m item wanted out
