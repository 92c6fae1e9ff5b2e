-- The header that is made, read back field by field. Assumes nothing.
use mathlib.Core.Path.{◌≡◌, sym, ap, ◌∙◌}
use mathlib.Core.Bool.{true}
use mathlib.Core.List.{List, [], ◌∷◌}
use Prim.Native.Nat.{ℕ, ◌+◌, ◌-◌, ◌*◌, ◌≤◌}
use native.Mathlib.Omega.{arith}
use lib.ListN.{length, get_or, replicate, length-replicate, get_or-replicate}
use lib.Seq.{ext_get_or}
use Rattle.wire.specs.Bytes.{part, splice, word, bytes}
use Rattle.wire.specs.Items.{items, flat}
use Rattle.wire.proofs.Laws.{length_part, get_d_part, length-bytes, word_bytes, length-splice, part-splice, part-splice-before, part-splice-after}
use Rattle.wire.proofs.Lists.{Sized, none, length-flat, length-items, items-sized}
use Rattle.proposer.specs.Sorted.{sorted_from, sorted_once, put_in}
use Rattle.proposer.specs.State.{zeros, own_in, round_in, parent_count, waiting_count, parents_in, waiting_in, valid_state}
use Rattle.proposer.specs.Header.{with_list, header_of, header_made, Says}
use Rattle.proposer.proofs.Splices.{get-before, get_at}
use Rattle.proposer.proofs.Order.{items-laid, put-sized}
use Rattle.proposer.proofs.Values.{is_state}
use Rattle.proposer.proofs.Making.{length-zeros, sorted-few}
use Rattle.proposer.proofs.Meaning.{items-same}

part-zeros : (m i n : ℕ) → i + n ≤ m → part (zeros m) i n ≡ zeros n
unfolding zeros
part-zeros m i n h =
    let l : length (part (replicate m 0) i n) ≡ n = length_part (replicate m 0) i n (omega (arith, length-replicate {A = ℕ} m 0)) in
    ext_get_or 0 _ _ (l ∙ sym (length-replicate n 0))
    (λ k b.
    get_d_part (replicate m 0) i n k (omega arith) ∙ get_or-replicate m (i + k) 0 0 (omega arith) ∙ sym (get_or-replicate n k 0 0 (omega arith)))

module _ (author : List ℕ) (round : ℕ) (ps qs : List (List ℕ)) (la : length author ≡ 32) (lr : round ≤ 4294967295) (zp : Sized 32 ps) (np : length ps ≤ 32) (zq : Sized 36 qs) (nq : length qs ≤ 64) where
  one1 : List ℕ
  one1 = splice (zeros 3402) 32 author

  two1 : List ℕ
  two1 = splice one1 64 (bytes 8 round)

  three1 : List ℕ
  three1 = splice two1 74 (flat ps)

  four1 : List ℕ
  four1 = splice three1 72 (length ps ∷ [])

  five1 : List ℕ
  five1 = splice four1 1098 (flat qs)

  long-ps : length (flat ps) ≡ length ps * 32
  long-ps = length-flat 32 ps zp

  long_qs : length (flat qs) ≡ length qs * 36
  long_qs = length-flat 36 qs zq

  fits1 : 32 + length author ≤ length (zeros 3402)
  fits1 = omega (arith, length-zeros 3402)

  length1 : length one1 ≡ 3402
  unfolding one1
  length1 = length-splice (zeros 3402) 32 author fits1 ∙ length-zeros 3402

  fits2 : 64 + length (bytes 8 round) ≤ length one1
  fits2 = omega (arith, length1, length-bytes 8 round)

  length2 : length two1 ≡ 3402
  unfolding two1
  length2 = length-splice one1 64 (bytes 8 round) fits2 ∙ length1

  fits3 : 74 + length (flat ps) ≤ length two1
  fits3 = omega (arith, length2, long-ps)

  length3 : length three1 ≡ 3402
  unfolding three1
  length3 = length-splice two1 74 (flat ps) fits3 ∙ length2

  length4 : length four1 ≡ 3402
  unfolding four1
  length4 = length-splice three1 72 (length ps ∷ []) (omega (arith, length3)) ∙ length3

  fits5 : 1098 + length (flat qs) ≤ length four1
  fits5 = omega (arith, length4, long_qs)

  length5 : length five1 ≡ 3402
  unfolding five1
  length5 = length-splice four1 1098 (flat qs) fits5 ∙ length4

  six1 : List ℕ
  six1 = splice five1 73 (length qs ∷ [])

  length6 : length six1 ≡ 3402
  unfolding six1
  length6 = length-splice five1 73 (length qs ∷ []) (omega (arith, length5)) ∙ length5

  -- the bytes below 72, those from 74 to the payload, and the payload's
  low : (i n : ℕ) → i + n ≤ 72 → part six1 i n ≡ part two1 i n
  unfolding six1 five1 four1 three1
  low i n h =
      part-splice-before five1 73 (length qs ∷ []) (omega (arith, length5)) i n (omega arith)
      ∙ part-splice-before four1 1098 (flat qs) fits5 i n (omega arith)
      ∙ part-splice-before three1 72 (length ps ∷ []) (omega (arith, length3)) i n h
      ∙ part-splice-before two1 74 (flat ps) fits3 i n (omega arith)

  mid : (i n : ℕ) → 74 ≤ i → i + n ≤ 1098 → part six1 i n ≡ part three1 i n
  unfolding six1 five1 four1
  mid i n g h =
      part-splice-after five1 73 (length qs ∷ []) (omega (arith, length5)) i n (omega arith)
      ∙ part-splice-before four1 1098 (flat qs) fits5 i n h
      ∙ part-splice-after three1 72 (length ps ∷ []) (omega (arith, length3)) i n (omega arith)

  high : (i n : ℕ) → 1098 ≤ i → part six1 i n ≡ part five1 i n
  unfolding six1
  high i n g = part-splice-after five1 73 (length qs ∷ []) (omega (arith, length5)) i n (omega arith)

  blank : (i n : ℕ) → 72 ≤ i → i + n ≤ 3402 → part two1 i n ≡ zeros n
  unfolding two1 one1
  blank i n g h =
      part-splice-after one1 64 (bytes 8 round) fits2 i n (omega (arith, length-bytes 8 round))
      ∙ part-splice-after (zeros 3402) 32 author fits1 i n (omega arith)
      ∙ part-zeros 3402 i n h

  count-ps : get_or six1 72 0 ≡ length ps
  unfolding six1 five1 four1
  count-ps =
      get-before five1 73 (length qs ∷ []) 72 (omega (arith, length5)) (omega arith)
      ∙ get-before four1 1098 (flat qs) 72 fits5 (omega arith)
      ∙ get_at three1 72 (length ps) (omega (arith, length3))

  count-qs : get_or six1 73 0 ≡ length qs
  unfolding six1
  count-qs = get_at five1 73 (length qs) (omega (arith, length5))

  read-id : part six1 0 32 ≡ zeros 32
  unfolding two1 one1
  read-id =
      low 0 32 (omega arith)
      ∙ part-splice-before one1 64 (bytes 8 round) fits2 0 32 (omega arith)
      ∙ part-splice-before (zeros 3402) 32 author fits1 0 32 (omega arith)
      ∙ part-zeros 3402 0 32 (omega arith)

  read-author : part six1 32 32 ≡ author
  unfolding two1 one1
  read-author =
      low 32 32 (omega arith)
      ∙ part-splice-before one1 64 (bytes 8 round) fits2 32 32 (omega arith)
      ∙ part-splice (zeros 3402) 32 author fits1 32 (sym la)

  read-round : word (part six1 64 8) ≡ round
  unfolding two1
  read-round =
      ap word (low 64 8 (omega arith) ∙ part-splice one1 64 (bytes 8 round) fits2 8 (sym (length-bytes 8 round)))
      ∙ word_bytes 8 round (omega arith)

  read-parents : items 32 six1 74 (length ps) ≡ ps
  unfolding three1
  read-parents =
      items-same 32 74 (length ps) six1 three1 (mid 74 (length ps * 32) (omega arith) (omega arith))
      ∙ items-laid 32 ps two1 74 zp (omega (arith, length2))

  read-payload : items 36 six1 1098 (length qs) ≡ qs
  unfolding five1
  read-payload =
      items-same 36 1098 (length qs) six1 five1 (high 1098 (length qs * 36) (omega arith))
      ∙ items-laid 36 qs four1 1098 zq (omega (arith, length4))

  past-ps : part six1 (74 + length ps * 32) (1024 - length ps * 32) ≡ zeros (1024 - length ps * 32)
  unfolding three1
  past-ps =
      mid (74 + length ps * 32) (1024 - length ps * 32) (omega arith) (omega arith)
      ∙ part-splice-after two1 74 (flat ps) fits3 (74 + length ps * 32) (1024 - length ps * 32) (omega (arith, long-ps))
      ∙ blank (74 + length ps * 32) (1024 - length ps * 32) (omega arith) (omega arith)

  past-qs : part six1 (1098 + length qs * 36) (2304 - length qs * 36) ≡ zeros (2304 - length qs * 36)
  unfolding five1 four1 three1
  past-qs =
      let i : ℕ = 1098 + length qs * 36 in
      let n : ℕ = 2304 - length qs * 36 in
      high i n (omega arith)
      ∙ part-splice-after four1 1098 (flat qs) fits5 i n (omega (arith, long_qs))
      ∙ part-splice-after three1 72 (length ps ∷ []) (omega (arith, length3)) i n (omega arith)
      ∙ part-splice-after two1 74 (flat ps) fits3 i n (omega (arith, long-ps))
      ∙ blank i n (omega arith) (omega arith)

  pub header-says : Says (header_of author round ps qs) author round ps qs
  unfolding header_of with_list one1 two1 three1 four1 five1 six1
  header-says =
      record {
        size = length6;
        id = read-id;
        author = read-author;
        round = read-round;
        parents = rw count-ps read-parents;
        payload = rw count-qs read-payload;
        past_parents = past-ps;
        past_payload = past-qs;
      }

-- ---- the header of a state
sorted-sized : (size : ℕ) (ys xs : List (List ℕ)) → Sized size ys → Sized size xs → Sized size (sorted_from ys xs)
unfolding sorted_from
sorted-sized size ys [] s none = s
sorted-sized size ys (x ∷ xs) s (Sized.one e z) = sorted-sized size (put_in x ys) xs (put-sized size x ys e s) z

once-sized : (size : ℕ) (xs : List (List ℕ)) → Sized size xs → Sized size (sorted_once xs)
unfolding sorted_once
once-sized size xs z = sorted-sized size [] xs none z

pub made-says : (s : List ℕ) → valid_state s ≡ true → round_in s ≤ 4294967295 → Says (header_made s) (own_in s) (round_in s) (sorted_once (parents_in s)) (sorted_once (waiting_in s))
unfolding header_made own_in parents_in waiting_in
made-says s v r =
    let i = is_state s v in
    let ps : List (List ℕ) = items 32 s 38 (parent_count s) in
    let qs : List (List ℕ) = items 36 s 1062 (waiting_count s) in
    header-says (part s 0 32) (round_in s) (sorted_once ps) (sorted_once qs)
    (length_part s 0 32 (omega (arith, i.size)))
    r
    (once-sized 32 ps (items-sized 32 s 38 (parent_count s) (omega (arith, i.size, i.parents))))
    (omega (arith, sorted-few ps, length-items 32 s 38 (parent_count s), i.parents))
    (once-sized 36 qs (items-sized 36 s 1062 (waiting_count s) (omega (arith, i.size, i.waiting))))
    (omega (arith, sorted-few qs, length-items 36 s 1062 (waiting_count s), i.waiting))
