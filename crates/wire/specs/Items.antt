-- Items of one size that stand one behind the other: a list. Assumes nothing.
use Rattle.std.specs.Prelude.{ℕ, zero, suc, ◌+◌, ◌*◌, Bool, true, false, List, [], ◌∷◌, ◌++◌, length, take, drop}
use Rattle.wire.specs.Bytes.{part, alike, less}
use Rattle.std.specs.Prelude.{Option, Some, None}

-- the first n pieces of xs that have the size
unfoldable pub chunks : ℕ → List ℕ → ℕ → List (List ℕ)
chunks size xs zero = []
chunks size xs (suc n) = take size xs ∷ chunks size (drop size xs) n

-- the n items of xs from at
unfoldable pub items : ℕ → List ℕ → ℕ → ℕ → List (List ℕ)
items size xs at n = chunks size (drop at xs) n

-- the bytes where item i of those from at stands
unfoldable pub item_in : ℕ → List ℕ → ℕ → ℕ → List ℕ
item_in size xs at i = part xs (at + i * size) size

-- items one behind the other
unfoldable pub flat : List (List ℕ) → List ℕ
flat [] = []
flat (r ∷ rs) = r ++ flat rs

-- whether an item has what, from off
unfoldable pub has_part : ℕ → List ℕ → List ℕ → Bool
has_part off what item = alike (part item off (length what)) what

-- the number of the first that a test takes, where the first of all has the number i
unfoldable pub first_of : (List ℕ → Bool) → List (List ℕ) → ℕ → Option ℕ
first_of test [] i = None
first_of test (r ∷ rs) i = elim (test r) [ true ↦ Some i | false ↦ first_of test rs (suc i) ]

-- a sum over all
unfoldable pub sum_of : (List ℕ → ℕ) → List (List ℕ) → ℕ
sum_of f [] = 0
sum_of f (r ∷ rs) = f r + sum_of f rs

-- whether a test takes all
unfoldable pub all_of : (List ℕ → Bool) → List (List ℕ) → Bool
all_of test [] = true
all_of test (r ∷ rs) = elim (test r) [ true ↦ all_of test rs | false ↦ false ]

-- those that a test keeps, in order
unfoldable pub keeps : (List ℕ → Bool) → List (List ℕ) → List (List ℕ)
keeps keep [] = []
keeps keep (r ∷ rs) = elim (keep r) [ true ↦ r ∷ keeps keep rs | false ↦ keeps keep rs ]

-- the first 32 bytes of each: a key or a digest
unfoldable pub key_of : List ℕ → List ℕ
key_of item = part item 0 32

unfoldable pub keys : List (List ℕ) → List (List ℕ)
keys [] = []
keys (r ∷ rs) = key_of r ∷ keys rs

-- whether each comes strictly before the next; x is the one before the first
unfoldable pub ascends_from : List ℕ → List (List ℕ) → Bool
ascends_from x [] = true
ascends_from x (y ∷ ys) = elim (less x y) [ true ↦ ascends_from y ys | false ↦ false ]

unfoldable pub ascends : List (List ℕ) → Bool
ascends [] = true
ascends (x ∷ xs) = ascends_from x xs
