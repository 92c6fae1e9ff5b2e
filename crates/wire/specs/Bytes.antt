-- Byte strings: parts, equality, order, and the numbers that they say. Assumes nothing.
use Rattle.std.specs.Prelude.{ℕ, zero, suc, ◌+◌, ◌*◌, ◌/◌, ◌%◌, Bool, true, false, List, [], ◌∷◌, ◌++◌, length, take, drop, eqb, ltb}

-- one of two, by a test
abbrev pub pick : {A : Type 0} → Bool → A → A → A
pick true a b = a
pick false a b = b

-- the n bytes of xs from at
unfoldable pub part : List ℕ → ℕ → ℕ → List ℕ
part xs at n = take n (drop at xs)

-- whether two byte strings are the same
unfoldable pub alike : List ℕ → List ℕ → Bool
alike [] [] = true
alike [] (y ∷ ys) = false
alike (x ∷ xs) [] = false
alike (x ∷ xs) (y ∷ ys) = pick (eqb x y) (alike xs ys) false

-- whether the first comes strictly before the second, in lexicographic order
unfoldable pub less : List ℕ → List ℕ → Bool
less [] [] = false
less [] (y ∷ ys) = true
less (x ∷ xs) [] = false
less (x ∷ xs) (y ∷ ys) = pick (ltb x y) true (pick (eqb x y) (less xs ys) false)

-- xs with ys in the place of its bytes from at
unfoldable pub splice : List ℕ → ℕ → List ℕ → List ℕ
splice xs at ys = take at xs ++ (ys ++ drop (at + length ys) xs)

-- the number that a string of bytes says, lowest byte first
unfoldable pub word : List ℕ → ℕ
word [] = 0
word (b ∷ bs) = b + 256 * word bs

-- the n lowest bytes of x, lowest first
unfoldable pub bytes : ℕ → ℕ → List ℕ
bytes zero x = []
bytes (suc n) x = x % 256 ∷ bytes n (x / 256)
