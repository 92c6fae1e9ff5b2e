-- The laws of writing strings: fields side by side, items one behind the other, and the strings' lengths. Assumes nothing.
use mathlib.Core.Path.{◌≡◌, refl, sym, ap, ◌∙◌}
use mathlib.Core.List.{List, [], ◌∷◌, ◌++◌, map, append_assoc, append-nil}
use Prim.Native.Nat.{ℕ, zero, suc, ◌+◌, ◌-◌, ◌*◌, ◌≤◌, ◌<◌}
use native.Mathlib.Numerals.{add-one}
use native.Mathlib.Nat.{zero-mul, mul-le-mul_right}
use native.Mathlib.Omega.{arith}
use lib.ListN.{length, get_or, take, drop, length-append, length-take, length-drop, length-map, take-append-drop, drop_of_length-le}
use lib.Seq.{take-suc, take_at, take_all, drop-drop, length-take-le}
use borrow.Rule.Slice.PartMut.{put_mid}
use Rattle.wire.specs.Bytes.{splice, bytes}
use Rattle.wire.specs.Items.{chunks, items, item_in, flat}
use Rattle.wire.proofs.Laws.{length_part, length-bytes, length-splice, put-mid}
use Rattle.wire.proofs.Lists.{Sized, none, one, sized-at, sized-take, items-sized, item-is, item-length, length-items, length-flat, length-chunks, chunks-sized, flat-chunks, flat_append, flat-one, splice-seam, splice-next, below-mul, next-mul}
use Rattle.messages.specs.Header.{author_of, round_of, parent_count, payload_count, parents_of, payload_of, digest_in, worker_in}
use Rattle.messages.specs.Strings.{payload_item, header_string, vote_string}

-- a string that fills all
pub splice-full : (xs ys : List ℕ) → length ys ≡ length xs → splice xs 0 ys ≡ ys
unfolding splice
splice-full xs ys e = rw (drop_of_length-le xs {i = 0 + length ys} (omega arith)) (append-nil ys)

-- ---- a payload item's string
pub item-string-length : (p : List ℕ) → 36 ≤ length p → length (payload_item p) ≡ 36
unfolding payload_item digest_in
item-string-length p h = rw (length-append, length_part p 0 32 (omega arith), length-bytes)

pub item-written : (p out out₁ out₂ d : List ℕ) (w : ℕ) → 36 ≤ length p → length out ≡ 36 → d ≡ digest_in p → w ≡ worker_in p → out₁ ≡ splice out 0 d → out₂ ≡ splice out₁ 32 (bytes 4 w) → out₂ ≡ payload_item p
unfolding payload_item digest_in
item-written p out out₁ out₂ d w h l ed ew e₁ e₂ =
    let ld : length d ≡ 32 = ap length ed ∙ length_part p 0 32 (omega arith) in
    let lb = length-bytes 4 w in
    e₂
    ∙ ap (λ (z : List ℕ). splice z 32 (bytes 4 w)) e₁
    ∙ splice-next out d (bytes 4 w) 0 32 (omega arith) (omega arith)
    ∙ splice-full out (d ++ bytes 4 w) (simp length-append (omega arith))
    ∙ rw (ed, ew)

-- an item of just the length
pub whole-written : (p out out₁ out₂ d : List ℕ) (w : ℕ) → length p ≡ 36 → length out ≡ 36 → d ≡ digest_in p → w ≡ worker_in p → out₁ ≡ splice out 0 d → out₂ ≡ splice out₁ 32 (bytes 4 w) → out₂ ≡ payload_item p
whole-written p out out₁ out₂ d w h l ed ew e₁ e₂ = item-written p out out₁ out₂ d w (omega arith) l ed ew e₁ e₂

-- ---- items written one behind the other: those below i stand, the rest is as it was
pub record Filling (rs : List (List ℕ)) (size n : ℕ) (out₀ out : List ℕ) (i : ℕ) : Type 0 where
  pub high : i ≤ n
  pub count : length rs ≡ n
  pub sized : Sized size rs
  pub long : length out₀ ≡ n * size
  pub here : out ≡ flat (take i rs) ++ drop (i * size) out₀

pub filling-start : (rs : List (List ℕ)) (size n : ℕ) (out : List ℕ) → length rs ≡ n → Sized size rs → length out ≡ n * size → Filling rs size n out out 0
unfolding flat
filling-start rs size n out c s l = record { high = omega arith; count = c; sized = s; long = l; here = rw zero-mul }

module _ (rs : List (List ℕ)) (size n : ℕ) (out₀ out : List ℕ) (i : ℕ) (s : Filling rs size n out₀ out i) where
  head-length : length (flat (take i rs)) ≡ i * size
  head-length =
      let l : length (take i rs) ≡ i = length-take-le i rs (omega (arith, s.high, s.count)) in
      length-flat size (take i rs) (sized-take size rs i s.sized) ∙ ap (λ (k : ℕ). k * size) l

  pub filling-length : length out ≡ n * size
  filling-length =
      let b : i * size ≤ n * size = mul-le-mul_right size s.high in
      ap length s.here ∙ simp (length-append, length-drop) (omega (arith, head-length, s.long))

  pub filling-same : length out ≡ length out₀
  filling-same = filling-length ∙ sym s.long

  pub filling-done : n ≤ i → out ≡ flat rs
  filling-done l =
      let e : i ≡ n = omega (arith, s.high) in
      let z : drop (i * size) out₀ ≡ [] = drop_of_length-le out₀ {i = i * size} (rw e (omega (arith, s.long))) in
      let t : take i rs ≡ rs = take_all i rs (omega (arith, s.count)) in
      s.here ∙ rw (z, append-nil, t)

  module _ (l : i < n) where
    pub filling-room : (r : List ℕ) → length r ≡ size → i * size + length r ≤ length out
    filling-room r e = omega (arith, filling-length, below-mul i n size l)

    pub filling-next : (r out' : List ℕ) → r ≡ get_or rs i [] → out' ≡ splice out (i * size) r → Filling rs size n out₀ out' (i + 1)
    filling-next r out' e f =
        let lr : length r ≡ size = ap length e ∙ sized-at size rs i s.sized (omega (arith, s.count)) in
        let b : List ℕ = take size (drop (i * size) out₀) in
        let c : List ℕ = drop size (drop (i * size) out₀) in
        let w = below-mul i n size l in
        let lb : length r ≡ length b = simp (length-take, length-drop) (omega (arith, s.long)) in
        let o : out ≡ flat (take i rs) ++ (b ++ c) = s.here ∙ rw (take-append-drop size (drop (i * size) out₀)) in
        let t : take (i + 1) rs ≡ take i rs ++ (r ∷ []) = rw add-one (take-suc rs i [] (omega (arith, s.count)) ∙ rw e) in
        let d : c ≡ drop ((i + 1) * size) out₀ = rw (next-mul, drop-drop) in
        record {
          high = omega arith;
          count = s.count;
          sized = s.sized;
          long = s.long;
          here =
              f
              ∙ ap (λ (z : List ℕ). splice z (i * size) r) o
              ∙ splice-seam (flat (take i rs)) b r c (i * size) head-length lb
              ∙ ap (λ (z : List ℕ). flat (take i rs) ++ (r ++ z)) d
              ∙ sym (rw (t, flat_append, flat-one, append_assoc));
        }

-- ---- the parents of a header stand as they are written
pub parents-copied : (h out : List ℕ) (n : ℕ) → length h ≡ 3402 → parent_count h ≤ 32 → n ≡ parent_count h → out ≡ take (74 + n * 32 - 74) (drop 74 h) → out ≡ flat (parents_of h)
unfolding parents_of items
parents-copied h out n l few e f =
    let rs : List (List ℕ) = chunks 32 (drop 74 h) n in
    let m : 74 + n * 32 - 74 ≡ n * 32 = omega arith in
    let k : length (flat rs) ≡ n * 32 = length-flat 32 rs (chunks-sized 32 (drop 74 h) n (simp length-drop (omega arith))) ∙ ap (λ (z : ℕ). z * 32) (length-chunks 32 (drop 74 h) n) in
    f
    ∙ rw m (ap (take (n * 32)) (sym (flat-chunks 32 (drop 74 h) n)))
    ∙ take_at (flat rs) (drop (n * 32) (drop 74 h)) (n * 32) k
    ∙ rw e

pub parents-put : (h out out' : List ℕ) (n : ℕ) → length h ≡ 3402 → parent_count h ≤ 32 → n ≡ parent_count h → length out ≡ parent_count h * 32 → out' ≡ splice out 0 (take (74 + n * 32 - 74) (drop 74 h)) → out' ≡ flat (parents_of h)
parents-put h out out' n l few e m f =
    let s : List ℕ = take (74 + n * 32 - 74) (drop 74 h) in
    f ∙ splice-full out s (simp (length-take, length-drop) (omega arith)) ∙ parents-copied h s n l few e refl

-- ---- the payload of a header
strings-sized : (ps : List (List ℕ)) → Sized 36 ps → Sized 36 (map payload_item ps)
strings-sized [] none = none
strings-sized (p ∷ ps) (one e s) = one (item-string-length p (omega arith)) (strings-sized ps s)

get_d-strings : (ps : List (List ℕ)) (i : ℕ) → i < length ps → get_or (map payload_item ps) i [] ≡ payload_item (get_or ps i [])
get_d-strings [] i h = absurd (omega arith)
get_d-strings (p ∷ ps) zero h = refl
get_d-strings (p ∷ ps) (suc i) h = get_d-strings ps i (omega arith)

module _ (h : List ℕ) (n : ℕ) (l : length h ≡ 3402) (few : payload_count h ≤ 64) (e : n ≡ payload_count h) where
  pub payload-start : (out : List ℕ) → length out ≡ payload_count h * 36 → Filling (map payload_item (payload_of h)) 36 n out out 0
  unfolding payload_of
  payload-start out m =
      let ps : List (List ℕ) = items 36 h 1098 (payload_count h) in
      filling-start (map payload_item ps) 36 n out (length-map ps payload_item ∙ length-items 36 h 1098 (payload_count h) ∙ sym e) (strings-sized ps (items-sized 36 h 1098 (payload_count h) (omega arith))) (omega arith)

  module _ (out₀ out : List ℕ) (i : ℕ) (s : Filling (map payload_item (payload_of h)) 36 n out₀ out i) (b : i < n) where
    pub payload-end : i * 36 + 36 ≤ length out
    payload-end = omega (arith, filling-length (map payload_item (payload_of h)) 36 n out₀ out i s)

    pub payload-long : (p : List ℕ) → p ≡ item_in 36 h 1098 i → 36 ≤ length p
    payload-long p f = omega (arith, ap length f, item-length 36 h 1098 (payload_count h) (omega arith) i (omega arith))

    module _ (p r : List ℕ) (f : p ≡ item_in 36 h 1098 i) (g : r ≡ payload_item p) where
      payload-is : r ≡ get_or (map payload_item (payload_of h)) i []
      unfolding payload_of
      payload-is =
          let m : i < length (items 36 h 1098 (payload_count h)) = omega (arith, length-items 36 h 1098 (payload_count h)) in
          g ∙ ap payload_item (f ∙ item-is 36 h 1098 (payload_count h) (omega arith) i (omega arith)) ∙ sym (get_d-strings (items 36 h 1098 (payload_count h)) i m)

      pub payload-next : Filling (map payload_item (payload_of h)) 36 n out₀ (put_mid (i * 36) (i * 36 + 36 - i * 36) out r) (i + 1)
      payload-next =
          filling-next (map payload_item (payload_of h)) 36 n out₀ out i s b r _ payload-is
          (put-mid out r (i * 36) (i * 36 + 36 - i * 36) (ap length g ∙ item-string-length p (payload-long p f) ∙ omega arith))

-- ---- a vote's string
pub vote-written : (id origin out out₁ out₂ out₃ : List ℕ) (round : ℕ) → length id ≡ 32 → length origin ≡ 32 → length out ≡ 72 → out₁ ≡ splice out 0 id → out₂ ≡ splice out₁ 32 (bytes 8 round) → out₃ ≡ splice out₂ 40 origin → out₃ ≡ vote_string id round origin
unfolding vote_string
vote-written id origin out out₁ out₂ out₃ round li lo l e₁ e₂ e₃ =
    let lb = length-bytes 8 round in
    let s₂ : out₂ ≡ splice out 0 (id ++ bytes 8 round) = e₂ ∙ ap (λ (z : List ℕ). splice z 32 (bytes 8 round)) e₁ ∙ splice-next out id (bytes 8 round) 0 32 (omega arith) (omega arith) in
    let l₂ : length (id ++ bytes 8 round) ≡ 40 = simp length-append (omega arith) in
    e₃
    ∙ ap (λ (z : List ℕ). splice z 40 origin) s₂
    ∙ splice-next out (id ++ bytes 8 round) origin 0 40 (omega arith) (omega arith)
    ∙ splice-full out (id ++ bytes 8 round ++ origin) (simp length-append (omega arith))
    ∙ append_assoc id (bytes 8 round) origin

-- ---- a header's string: its length, and the fields written one behind the other
module _ (h : List ℕ) (l : length h ≡ 3402) where
  author-length : length (author_of h) ≡ 32
  unfolding author_of
  author-length = length_part h 32 32 (omega arith)

  module _ (lm : parent_count h ≤ 32) (lk : payload_count h ≤ 64) where
    parents-length : length (flat (parents_of h)) ≡ parent_count h * 32
    unfolding parents_of
    parents-length = length-flat 32 (items 32 h 74 (parent_count h)) (items-sized 32 h 74 (parent_count h) (omega arith)) ∙ ap (λ (z : ℕ). z * 32) (length-items 32 h 74 (parent_count h))

    payload-length : length (flat (map payload_item (payload_of h))) ≡ payload_count h * 36
    unfolding payload_of
    payload-length =
        let ps : List (List ℕ) = items 36 h 1098 (payload_count h) in
        length-flat 36 (map payload_item ps) (strings-sized ps (items-sized 36 h 1098 (payload_count h) (omega arith)))
        ∙ ap (λ (z : ℕ). z * 36) (length-map ps payload_item ∙ length-items 36 h 1098 (payload_count h))

    pub header-string-length : length (header_string h) ≡ 40 + payload_count h * 36 + parent_count h * 32
    unfolding header_string
    header-string-length = simp (length-append, length-bytes, author-length, parents-length, payload-length) (omega arith)

    pub header-written : (out₀ out₁ out₂ a p q : List ℕ) (k r : ℕ) → length out₀ ≡ 40 + payload_count h * 36 + parent_count h * 32 → k ≡ payload_count h → a ≡ author_of h → out₁ ≡ splice out₀ 0 a → r ≡ round_of h → out₂ ≡ splice out₁ 32 (bytes 8 r) → p ≡ flat (map payload_item (payload_of h)) → q ≡ flat (parents_of h) → put_mid (40 + k * 36) (length (put_mid 40 (40 + k * 36 - 40) out₂ p) - (40 + k * 36)) (put_mid 40 (40 + k * 36 - 40) out₂ p) q ≡ header_string h
    unfolding header_string
    header-written out₀ out₁ out₂ a p q k r lo ek ea e₁ er e₂ ep eq =
        let la : length a ≡ 32 = ap length ea ∙ author-length in
        let lb = length-bytes 8 r in
        let lp : length p ≡ k * 36 = ap length ep ∙ payload-length ∙ omega arith in
        let lq : length q ≡ parent_count h * 32 = ap length eq ∙ parents-length in
        let s₂ : out₂ ≡ splice out₀ 0 (a ++ bytes 8 r) = e₂ ∙ ap (λ (z : List ℕ). splice z 32 (bytes 8 r)) e₁ ∙ splice-next out₀ a (bytes 8 r) 0 32 (omega arith) (omega arith) in
        let l₂ : length (a ++ bytes 8 r) ≡ 40 = simp length-append (omega arith) in
        let out₃ : List ℕ = put_mid 40 (40 + k * 36 - 40) out₂ p in
        let s₃ : out₃ ≡ splice out₀ 0 (a ++ bytes 8 r ++ p) =
        put-mid out₂ p 40 (40 + k * 36 - 40) (omega arith)
        ∙ ap (λ (z : List ℕ). splice z 40 p) s₂
        ∙ splice-next out₀ (a ++ bytes 8 r) p 0 40 (omega arith) (omega arith) in
        let l₃ : length (a ++ bytes 8 r ++ p) ≡ 40 + k * 36 = simp length-append (omega arith) in
        let m₃ : length out₃ ≡ length out₀ = ap length s₃ ∙ length-splice out₀ 0 (a ++ bytes 8 r ++ p) (omega arith) in
        put-mid out₃ q (40 + k * 36) (length out₃ - (40 + k * 36)) (omega arith)
        ∙ ap (λ (z : List ℕ). splice z (40 + k * 36) q) s₃
        ∙ splice-next out₀ (a ++ bytes 8 r ++ p) q 0 (40 + k * 36) (omega arith) (omega arith)
        ∙ splice-full out₀ (a ++ bytes 8 r ++ p ++ q) (simp length-append (omega arith))
        ∙ rw (ea, er, ep, eq) (simp append_assoc)

    pub header-length-is : (k m : ℕ) → k ≡ payload_count h → m ≡ parent_count h → 40 + k * 36 + m * 32 ≡ length (header_string h)
    header-length-is k m ek em = sym (header-string-length ∙ omega arith)
