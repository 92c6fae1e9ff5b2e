-- Bytes that are 0: a part of them, and what is written over. Assumes nothing.
use mathlib.Core.Path.{◌≡◌, refl, sym, ap, ◌∙◌}
use mathlib.Core.List.{List, [], ◌++◌, append-nil}
use Prim.Native.Nat.{ℕ, ◌+◌, ◌-◌, ◌≤◌}
use native.Mathlib.Omega.{arith}
use lib.ListN.{length, take, drop, replicate, length-replicate, replicate-append-replicate, drop_of_length-le}
use lib.Seq.{take_at, drop_at}
use Rattle.wire.specs.Bytes.{part, splice}

abbrev pub zeros : ℕ → List ℕ
zeros n = replicate n 0

pub length-zeros : (n : ℕ) → length (zeros n) ≡ n
length-zeros n = length-replicate {A = ℕ} n 0

pub zeros-add : (m n k : ℕ) → k ≡ m + n → zeros k ≡ zeros m ++ zeros n
zeros-add m n k e = ap zeros e ∙ sym (replicate-append-replicate {A = ℕ} m n 0)

pub part-zeros : (k at n : ℕ) → at + n ≤ k → part (zeros k) at n ≡ zeros n
unfolding part
part-zeros k at n h =
    let e : zeros k ≡ zeros at ++ (zeros n ++ zeros (k - (at + n))) = zeros-add at (n + (k - (at + n))) k (omega arith) ∙ ap (λ (v : List ℕ). zeros at ++ v) (zeros-add n (k - (at + n)) (n + (k - (at + n))) refl) in
    ap (λ (v : List ℕ). take n (drop at v)) e
    ∙ ap (take n) (drop_at (zeros at) (zeros n ++ zeros (k - (at + n))) at (length-zeros at))
    ∙ take_at (zeros n) (zeros (k - (at + n))) n (length-zeros n)

-- zeros in every byte
pub cleared : (xs ys : List ℕ) → ys ≡ splice xs 0 (replicate (length xs) 0) → ys ≡ replicate (length xs) 0
unfolding splice
cleared xs ys e =
    let l = length-zeros (length xs) in
    let d : drop (0 + length (zeros (length xs))) xs ≡ [] = drop_of_length-le xs {i = 0 + length (zeros (length xs))} (omega arith) in
    e ∙ rw d (append-nil (zeros (length xs)))

pub cleared-all : (xs ys : List ℕ) → ys ≡ splice xs 0 (replicate (length xs) 0) → ys ≡ replicate (length ys) 0
cleared-all xs ys e =
    let z = cleared xs ys e in
    let l : length ys ≡ length xs = ap length z ∙ length-zeros (length xs) in
    z ∙ ap zeros (sym l)
