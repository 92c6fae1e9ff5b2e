-- What a listing leaves, as bytes: entries of the list, and the rows that stay. A list place: member index 1, round 4, digest 32. Assumes
-- nothing.
use mathlib.Core.Path.{ap}
use mathlib.Core.HLevel.{Π_prop}
use native.Mathlib.Bridge.{le_prop}
use Rattle.std.specs.Prelude.{ℕ, ◌<◌, Bool, true, false, List, ◌∷◌, ◌++◌, map, get_or}
use Rattle.wire.specs.Bytes.{bytes}
use Rattle.wire.specs.Items.{flat}
use Rattle.consensus.specs.Table.{Cert, highest}
use Rattle.consensus.specs.Listing.{Fate, stays, goes, fate}
use Rattle.held.specs.Rows.{cert_of}

unfoldable pub entry_of : Cert → List ℕ
entry_of c = c.origin ∷ (bytes 4 c.round ++ c.digest)

unfoldable pub entries_of : List Cert → List ℕ
unfolding entry_of
entries_of cs = flat (map entry_of cs)

abbrev pub is_stays : Fate → Bool
is_stays stays = true
is_stays (goes w) = false

-- whether a row's certificate stays, where these are the last committed rounds
unfoldable pub stays_row : ℕ → List ℕ → List ℕ → Bool
stays_row depth last row = is_stays (fate depth last (highest last) (cert_of row))

-- the first m of these numbers are below n
pub record Below (xs : List ℕ) (m n : ℕ) : Type 0 where
  pub each : (k : ℕ) → k < m → get_or xs k 0 < n

-- so a struct can carry it
pub Below-prop : (xs : List ℕ) (m n : ℕ) → IsProp (Below xs m n)
Below-prop xs m n a b = ap (λ (e : (k : ℕ) → k < m → get_or xs k 0 < n). record { each = e }) (Π_prop (λ k. Π_prop (λ l. le_prop)) a.each b.each)
