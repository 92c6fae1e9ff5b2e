-- The state's bytes are those of its rounds. Assumes nothing.
use mathlib.Core.Path.{◌≡◌, refl, sym, ap, ◌∙◌}
use mathlib.Core.List.{List, [], ◌∷◌, ◌++◌, map, append-nil}
use Prim.Native.Nat.{ℕ, zero, suc, ◌+◌, ◌*◌, ◌/◌, ◌%◌, ◌≤◌, ◌<◌}
use native.Mathlib.Omega.{arith}
use lib.ListN.{length, get_or, take, drop, length-drop, drop_of_length-le}
use lib.Seq.{length-take-le}
use Rattle.wire.specs.Bytes.{word, bytes}
use Rattle.wire.specs.Items.{chunks, items, flat}
use Rattle.wire.proofs.Lists.{flat-chunks}
use Rattle.room.specs.Numbers.{rounds_of, values_of}
use Rattle.held.specs.Rows.{lasts_of}
use Rattle.accept.specs.Accept.{last_bytes}

-- the bytes of the number that four bytes say
word_back : (a b c d : ℕ) → a < 256 → b < 256 → c < 256 → d < 256 → bytes 4 (word (a ∷ b ∷ c ∷ d ∷ [])) ≡ a ∷ b ∷ c ∷ d ∷ []
unfolding bytes word
word_back a b c d ha hb hc hd =
    let n₀ : ℕ = a + 256 * (b + 256 * (c + 256 * (d + 256 * 0))) in
    let e₀ : n₀ % 256 ≡ a = omega arith in
    let q₀ : n₀ / 256 ≡ b + 256 * (c + 256 * (d + 256 * 0)) = omega arith in
    let e₁ : (b + 256 * (c + 256 * (d + 256 * 0))) % 256 ≡ b = omega arith in
    let q₁ : (b + 256 * (c + 256 * (d + 256 * 0))) / 256 ≡ c + 256 * (d + 256 * 0) = omega arith in
    let e₂ : (c + 256 * (d + 256 * 0)) % 256 ≡ c = omega arith in
    let q₂ : (c + 256 * (d + 256 * 0)) / 256 ≡ d + 256 * 0 = omega arith in
    let e₃ : (d + 256 * 0) % 256 ≡ d = omega arith in
    rw (e₀, q₀, e₁, q₁, e₂, q₂, e₃)

back : (xs : List ℕ) → length xs ≡ 4 → ((k : ℕ) → get_or xs k 0 < 256) → bytes 4 (word xs) ≡ xs
back [] e h = absurd (omega arith)
back (a ∷ []) e h = absurd (omega arith)
back (a ∷ b ∷ []) e h = absurd (omega arith)
back (a ∷ b ∷ c ∷ []) e h = absurd (omega arith)
back (a ∷ b ∷ c ∷ d ∷ []) e h = word_back a b c d (h 0) (h 1) (h 2) (h 3)
back (a ∷ b ∷ c ∷ d ∷ f ∷ xs) e h = absurd (omega arith)

take-low : (n : ℕ) (xs : List ℕ) → ((k : ℕ) → get_or xs k 0 < 256) → (k : ℕ) → get_or (take n xs) k 0 < 256
take-low zero xs h k = omega arith
take-low (suc n) [] h k = h k
take-low (suc n) (x ∷ xs) h zero = h 0
take-low (suc n) (x ∷ xs) h (suc k) = take-low n xs (λ j. h (suc j)) k

drop-low : (n : ℕ) (xs : List ℕ) → ((k : ℕ) → get_or xs k 0 < 256) → (k : ℕ) → get_or (drop n xs) k 0 < 256
drop-low zero xs h k = h k
drop-low (suc n) [] h k = h k
drop-low (suc n) (x ∷ xs) h k = drop-low n xs (λ j. h (suc j)) k

chunks-back : (n : ℕ) (xs : List ℕ) → n * 4 ≤ length xs → ((k : ℕ) → get_or xs k 0 < 256) → map (bytes 4) (map word (chunks 4 xs n)) ≡ chunks 4 xs n
unfolding chunks
chunks-back zero xs h l = refl
chunks-back (suc n) xs h l =
    let t : length (take 4 xs) ≡ 4 = length-take-le 4 xs (omega arith) in
    let d = length-drop 4 xs in
    cons (back (take 4 xs) t (take-low 4 xs l)) (chunks-back n (drop 4 xs) (omega arith) (drop-low 4 xs l))
  where
    cons : {a b : List ℕ} {us vs : List (List ℕ)} → a ≡ b → us ≡ vs → a ∷ us ≡ b ∷ vs
    cons p q = cc (p, q)

pub last-bytes : (st : List ℕ) (n : ℕ) → length st ≡ n * 4 → ((k : ℕ) → get_or st k 0 < 256) → st ≡ last_bytes (lasts_of st)
unfolding last_bytes lasts_of rounds_of values_of items
last-bytes st n e h =
    let z : length st / 4 ≡ n = omega arith in
    let d : drop (n * 4) st ≡ [] = drop_of_length-le st {i = n * 4} (omega arith) in
    let w : flat (chunks 4 st n) ≡ st = sym (append-nil (flat (chunks 4 st n))) ∙ ap (λ (v : List ℕ). flat (chunks 4 st n) ++ v) (sym d) ∙ flat-chunks 4 st n in
    sym (rw z (ap flat (chunks-back n st (omega arith) h) ∙ w))
