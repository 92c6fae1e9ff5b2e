-- The laws of `specs/Listed.antt`: an item more is an item more of the list. Assumes nothing.
use mathlib.Core.Path.{◌≡◌, sym, ap, ◌∙◌}
use mathlib.Core.List.{List, [], ◌∷◌, ◌++◌, append_assoc}
use Prim.Native.Nat.{ℕ, zero, suc, ◌+◌, ◌*◌, ◌≤◌, ◌<◌}
use native.Mathlib.Nat.{add_assoc}
use native.Mathlib.Omega.{arith}
use lib.ListN.{length, get_or, set, take, drop, length-drop, length-append, length-set, take-append-drop}
use lib.Seq.{drop_at, drop-drop, length-take-le, drop-set-lt, get_or-set_same, get_or-set_other}
use Rattle.wire.specs.Bytes.{part, splice}
use Rattle.wire.specs.Items.{items, item_in, chunks, flat}
use Rattle.wire.proofs.Laws.{length-splice, length_part, splice-own, part-splice-before, part_ext}
use Rattle.wire.proofs.Lists.{Sized, none, one, sized-append, items-sized, length-items, length-flat, flat_append, flat-one, flat-chunks, chunks-flat, next-mul, splice-seam}
use Rattle.aggregators.specs.Listed.{listed, added}

-- a splice behind n items is one item more
pub splice-item : (size : ℕ) (t : List ℕ) (at n : ℕ) (x : List ℕ) → length x ≡ size → at + (n + 1) * size ≤ length t → items size (splice t (at + n * size) x) at (n + 1) ≡ items size t at n ++ (x ∷ [])
unfolding items
splice-item size t at n x e h =
    let m = next-mul n size in
    let rs = chunks size (drop at t) n in
    let rest = drop (n * size) (drop at t) in
    let s : Sized size (items size t at n) = items-sized size t at n (omega arith) in
    let len : length rs ≡ n = length-items size t at n in
    let f : length (flat rs) ≡ n * size = length-flat size rs s ∙ ap (λ (k : ℕ). k * size) len in
    let ha : length (take at t) ≡ at = length-take-le at t (omega arith) in
    let hb : length (take at t ++ flat rs) ≡ at + n * size = length-append (take at t) (flat rs) ∙ omega arith in
    let hr : length (take size rest) ≡ size = length-take-le size rest (simp (length-drop, length-drop) (omega arith)) in
    let split : t ≡ (take at t ++ flat rs) ++ (take size rest ++ drop size rest) =
    sym (take-append-drop at t) ∙ rw (take-append-drop size rest) (rw append_assoc (ap (λ (z : List ℕ). take at t ++ z) (sym (flat-chunks size (drop at t) n)))) in
    let put : splice t (at + n * size) x ≡ take at t ++ (flat (rs ++ (x ∷ [])) ++ drop size rest) =
    ap (λ (z : List ℕ). splice z (at + n * size) x) split
    ∙ splice-seam (take at t ++ flat rs) (take size rest) x (drop size rest) (at + n * size) hb (e ∙ sym hr)
    ∙ rw (flat_append, flat-one) (simp append_assoc) in
    let many : n + 1 ≡ length (rs ++ (x ∷ [])) = sym (length-append rs (x ∷ []) ∙ ap (λ (k : ℕ). k + 1) len) in
    ap (λ (z : List ℕ). chunks size (drop at z) (n + 1)) put
    ∙ rw (drop_at (take at t) (flat (rs ++ (x ∷ [])) ++ drop size rest) at ha, many)
    (chunks-flat size (rs ++ (x ∷ [])) (drop size rest) (sized-append size rs (x ∷ []) s (one e none)))

-- the items up to and with item n
pub items_more : (size : ℕ) (t : List ℕ) (at n : ℕ) → at + (n + 1) * size ≤ length t → items size t at (n + 1) ≡ items size t at n ++ (item_in size t at n ∷ [])
unfolding item_in
items_more size t at n h =
    let m = next-mul n size in
    let o : splice t (at + n * size) (part t (at + n * size) size) ≡ t = splice-own t (at + n * size) size (omega arith) in
    ap (λ (z : List ℕ). items size z at (n + 1)) (sym o)
    ∙ splice-item size t at n (part t (at + n * size) size) (length_part t (at + n * size) size (omega arith)) h

-- two splices, one behind the other
pub splice-behind : (t : List ℕ) (p : ℕ) (a b : List ℕ) (q : ℕ) → q ≡ p + length a → q + length b ≤ length t → splice (splice t p a) q b ≡ splice t p (a ++ b)
unfolding splice
splice-behind t p a b q e h =
    let rest = drop (p + length a) t in
    let hp : length (take p t) ≡ p = length-take-le p t (omega arith) in
    let hf : length (take p t ++ a) ≡ q = length-append (take p t) a ∙ omega arith in
    let hr : length (take (length b) rest) ≡ length b = length-take-le (length b) rest (simp length-drop (omega arith)) in
    let split : take p t ++ (a ++ rest) ≡ (take p t ++ a) ++ (take (length b) rest ++ drop (length b) rest) = rw (take-append-drop (length b) rest) (sym (append_assoc (take p t) a rest)) in
    let far : drop (length b) rest ≡ drop (p + length (a ++ b)) t = drop-drop (length b) (p + length a) t ∙ rw length-append (rw add_assoc) in
    ap (λ (z : List ℕ). splice z q b) split
    ∙ splice-seam (take p t ++ a) (take (length b) rest) b (drop (length b) rest) q hf (sym hr)
    ∙ rw far (simp append_assoc)

pub sized-drop : (size : ℕ) (rs : List (List ℕ)) (i : ℕ) → Sized size rs → Sized size (drop i rs)
sized-drop size rs zero s = s
sized-drop size [] (suc i) s = none
sized-drop size (r ∷ rs) (suc i) (one e s) = sized-drop size rs i s

part-set : (u : List ℕ) (c v i n : ℕ) → i + n ≤ c → part (set u c v) i n ≡ part u i n
part-set u c v i n h = part_ext (set u c v) u i n (length-set u c v) (λ k p q. get_or-set_other u c k v 0 (λ z. omega arith))

module _ (c at size : ℕ) (t x : List ℕ) (l : c < at) (e : length x ≡ size) (h : at + (get_or t c 0 + 1) * size ≤ length t) where
  fits : at + get_or t c 0 * size + length x ≤ length t
  fits = omega (arith, next-mul (get_or t c 0) size)

  pub length-added : length (added c at size t x) ≡ length t
  unfolding added
  length-added = length-set (splice t (at + get_or t c 0 * size) x) c (get_or t c 0 + 1) ∙ length-splice t (at + get_or t c 0 * size) x fits

  pub count-added : get_or (added c at size t x) c 0 ≡ get_or t c 0 + 1
  unfolding added
  count-added = get_or-set_same (splice t (at + get_or t c 0 * size) x) c (get_or t c 0 + 1) 0 (omega (arith, length-splice t (at + get_or t c 0 * size) x fits))

  dropped : drop at (added c at size t x) ≡ drop at (splice t (at + get_or t c 0 * size) x)
  unfolding added
  dropped = drop-set-lt at (splice t (at + get_or t c 0 * size) x) c (get_or t c 0 + 1) l

  -- the list has the item more, at its end
  pub listed-added : listed c at size (added c at size t x) ≡ listed c at size t ++ (x ∷ [])
  unfolding listed items
  listed-added = rw (count-added, dropped) (splice-item size t at (get_or t c 0) x e h)

  -- the bytes before the count stay
  pub part-added : (i n : ℕ) → i + n ≤ c → part (added c at size t x) i n ≡ part t i n
  unfolding added
  part-added i n k =
      part-set (splice t (at + get_or t c 0 * size) x) c (get_or t c 0 + 1) i n k
      ∙ part-splice-before t (at + get_or t c 0 * size) x fits i n (omega arith)
