-- What each step leaves of pile, marks and list. Assumes nothing.
use mathlib.Core.HLevel.{Π_prop}
use native.Mathlib.Bridge.{le_prop}
use Rattle.std.specs.Prelude.{ℕ, zero, suc, ◌+◌, ◌-◌, ◌*◌, ◌<◌, ◌≤◌, ◌≡◌, List, [], ◌∷◌, ◌++◌, length, get_or, take, drop}
use Rattle.table.specs.Rows.{count_of}
use Rattle.room.specs.Numbers.{numbers_of}
use Rattle.consensus.specs.Table.{Cert, highest}
use Rattle.consensus.specs.Walk.{Pile, parents_at, walk, walk_from}
use Rattle.consensus.proofs.Marks.{ones}
use Rattle.consensus.proofs.Sorting.{near, place_in, by_round_in}
use Rattle.held.specs.Rows.{held_of, lasts_of, state_of}

-- ---- pile and marks: p and f are their bytes

-- the pile that the first h numbers are, the top first
unfoldable pub stack : List ℕ → ℕ → List ℕ
stack ws zero = []
stack ws (suc h) = get_or ws h 0 ∷ stack ws h

abbrev pub pile_of : List ℕ → ℕ → List ℕ → Pile
pile_of p h f = record { pile = stack (numbers_of p) h; flags = f }

-- between two steps: room for all places, no more on the pile than marked, and each on it is a place
pub record Sound (p : List ℕ) (h : ℕ) (f : List ℕ) : Type 0 where
  pub room : length f * 8 ≤ length p
  pub counted : h ≤ ones f
  pub each : (k : ℕ) → k < h → get_or (numbers_of p) k 0 < length f

-- so a struct can carry it
pub Sound-prop : (p : List ℕ) (h : ℕ) (f : List ℕ) → IsProp (Sound p h f)
Sound-prop p h f a b = λ i. record {
  room = le_prop a.room b.room i;
  counted = le_prop a.counted b.counted i;
  each = Π_prop (λ k. Π_prop (λ l. le_prop)) a.each b.each i;
}

-- a step that puts on what g does: as many more on the pile as are marked
pub record PutOn (g : Pile → Pile) (p : List ℕ) (h : ℕ) (f p' : List ℕ) (h' : ℕ) (f' : List ℕ) : Type 0 where
  pub sound : Sound p' h' f'
  pub is : pile_of p' h' f' ≡ g (pile_of p h f)
  pub balance : h' + ones f ≡ h + ones f'
  pub pile : length p' ≡ length p
  pub marks : length f' ≡ length f

-- ---- the list

-- place x is listed, unless it is deep
pub record KeptNear (held : List Cert) (depth top x : ℕ) (out : List ℕ) (m : ℕ) (out' : List ℕ) (m' : ℕ) : Type 0 where
  pub is : take m' (numbers_of out') ≡ take m (numbers_of out) ++ near depth top held (x ∷ [])
  pub most : m' ≤ m + 1
  pub size : length out' ≡ length out

-- the walk of what stands on the pile: the turns left are as many as there are places whose turn has not been
pub record Followed (st t : List ℕ) (depth r : ℕ) (p : List ℕ) (h : ℕ) (p' f f' o o' : List ℕ) : Type 0 where
  pub is : take r (numbers_of o') ≡ near depth (highest (lasts_of st)) (held_of t) (walk (parents_at (state_of st t)) (count_of t + h - ones f) (pile_of p h f))
  pub few : r ≤ count_of t
  pub pile : length p' ≡ length p
  pub marks : length f' ≡ length f
  pub out : length o' ≡ length o

-- the walk from a leader
pub record Walked (st t : List ℕ) (depth leader r : ℕ) (p p' f f' o o' : List ℕ) : Type 0 where
  pub is : take r (numbers_of o') ≡ near depth (highest (lasts_of st)) (held_of t) (walk_from (state_of st t) leader)
  pub few : r ≤ count_of t
  pub pile : length p' ≡ length p
  pub marks : length f' ≡ length f
  pub out : length o' ≡ length o

-- ---- sorting

-- the first m are places below n
abbrev pub Low : ℕ → List ℕ → ℕ → Type 0
Low n ws m = (k : ℕ) → k < m → get_or ws k 0 < n

-- of the first m number i is put among those behind it
pub record Placed (held : List Cert) (i m : ℕ) (out out' : List ℕ) : Type 0 where
  pub is :
      numbers_of out'
      ≡ take i (numbers_of out) ++ (place_in held (get_or (numbers_of out) i 0) (drop (i + 1) (take m (numbers_of out))) ++ drop m (numbers_of out))
  pub size : length out' ≡ length out

-- the first m are sorted
pub record Sorted (held : List Cert) (m : ℕ) (out out' : List ℕ) : Type 0 where
  pub is : numbers_of out' ≡ by_round_in held (take m (numbers_of out)) ++ drop m (numbers_of out)
  pub size : length out' ≡ length out
