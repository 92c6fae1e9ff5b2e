-- Counting certificates: document 01, 'aggregators', and numbers 10, 11, 12. Assumes nothing.
use Rattle.std.specs.Prelude.{ℕ, ◌+◌, ◌-◌, ◌≡◌, Bool, true, false, ◌&&◌, List, [], ◌∷◌, ◌++◌, length, get_or, drop, replicate, eqb, ltb, leb}
use Rattle.wire.specs.Bytes.{splice, bytes}
use Rattle.wire.specs.Items.{first_of, all_of, keys, flat}
use Rattle.std.specs.Prelude.{Some, None}
use Rattle.table.specs.Rows.{count_of, places, shaped, rows_of, appended, with_row, round_of}
use Rattle.config.specs.Committee.{valid_members}
use Rattle.aggregators.specs.Weight.{quorum_in, stake_by, is_in, weighed, weight_after, held, gathered_after, reached}
use Rattle.aggregators.specs.Tallies.{digests}
use Rattle.aggregators.specs.Listed.{listed, added}
use Rattle.refusal.specs.Answers.{Answer}
use Rattle.std.specs.Prelude.{Result, Ok, Err}
use Rattle.refusal.specs.declared.Refusal.{Refusal}
use Rattle.refusal.specs.declared.Refusal.TheVariants.{BadCommittee, BadShape, NoRoom}
use Rattle.aggregators.specs.declared.rounds.Place.{Place}
use Rattle.aggregators.specs.declared.rounds.Place.TheVariants.{Counted, Row, New}

-- ---- the row of a round: round 4, how many pairs 1, then 32 pairs of an origin's key and a digest, in the order counted
abbrev pub pair_count : List ℕ → ℕ
pair_count row = get_or row 4 0

unfoldable pub pairs_of : List ℕ → List (List ℕ)
pairs_of row = listed 4 5 64 row

unfoldable pub with_pair : List ℕ → List ℕ → List ℕ → List ℕ
with_pair row origin digest = added 4 5 64 row (origin ++ digest)

unfoldable pub empty_row : ℕ → List ℕ
empty_row round = bytes 4 round ++ replicate 2049 0

unfoldable pub of_round : ℕ → List ℕ → Bool
of_round round row = eqb (round_of row) round

-- a table of such rows
unfoldable pub few_pairs : List ℕ → Bool
few_pairs row = leb (pair_count row) 32

unfoldable pub are_counts : List ℕ → Bool
are_counts t = shaped 2053 t && all_of few_pairs (rows_of 2053 t)

-- ---- the digests gathered, and given: all of them and the new one, at quorum
unfoldable pub gathered : List ℕ → List ℕ → List (List ℕ)
gathered ms row = gathered_after (quorum_in ms) (stake_by ms) (pairs_of row) 0 []

unfoldable pub row_weight : List ℕ → List ℕ → ℕ
row_weight ms row = weight_after (quorum_in ms) (stake_by ms) (keys (pairs_of row)) 0

unfoldable pub row_reaches : List ℕ → List ℕ → List ℕ → Bool
row_reaches ms row origin = reached (quorum_in ms) (stake_by ms) (keys (pairs_of row)) origin

unfoldable pub given : List ℕ → List ℕ → List ℕ → List ℕ → List (List ℕ)
given ms row origin digest = elim (row_reaches ms row origin) [ true ↦ gathered ms row ++ (digest ∷ []) | false ↦ [] ]

-- the same as the code writes them: the last k - 1 digests of a row, and a new one
unfoldable pub last_digests : ℕ → List ℕ → List ℕ → List (List ℕ)
last_digests k row digest = digests (drop (pair_count row + 1 - k) (pairs_of row)) ++ (digest ∷ [])

-- how many
unfoldable pub given_count : List ℕ → List ℕ → List ℕ → ℕ
given_count ms row origin = elim (row_reaches ms row origin) [ true ↦ length (gathered ms row) + 1 | false ↦ 0 ]

-- ---- where a certificate is counted: behind the pairs of its round's row, or in a new row, or it is counted already, or there is no place
unfoldable pub place_in : List ℕ → List ℕ → ℕ → Result Place Refusal
place_in row origin i =
    elim (is_in origin (pairs_of row)) [ true ↦ Ok Counted | false ↦ elim (leb 32 (pair_count row)) [ true ↦ Err NoRoom | false ↦ Ok (Row i) ] ]

unfoldable pub place_for : List ℕ → ℕ → List ℕ → Result Place Refusal
place_for t round origin =
    elim (first_of (of_round round) (rows_of 2053 t) 0) [
      | Some i ↦ place_in (get_or (rows_of 2053 t) i []) origin i
      | None ↦ elim (ltb (count_of t) (places 2053 t)) [ true ↦ Ok New | false ↦ Err NoRoom ]
    ]

-- ---- what a call answers, and the table and the buffer that it leaves
pub record Certified : Type 0 where
  pub answer : Answer
  pub counts : List ℕ
  pub out : List ℕ

unfoldable pub stay : Answer → List ℕ → List ℕ → Certified
stay a t out = record { answer = a; counts = t; out = out }

-- how many digests are given; they stand at the front of the buffer
unfoldable pub grow : List (List ℕ) → List ℕ → List ℕ → Certified
grow ds t out = record { answer = Ok (length ds); counts = t; out = splice out 0 (flat ds) }

unfoldable pub certificate_shape : List ℕ → ℕ → List ℕ → List ℕ → List ℕ → Bool
certificate_shape t round origin digest out =
    are_counts t && leb 1 round && leb round 4294967295 && eqb (length origin) 32 && eqb (length digest) 32 && eqb (length out) 1024

-- 10, 11, then a repeated origin answers nothing, then 12
unfoldable pub count_certificate : List ℕ → List ℕ → ℕ → List ℕ → List ℕ → List ℕ → Certified
count_certificate ms t round origin digest out =
    elim (valid_members ms) [
      | false ↦ stay (Err BadCommittee) t out
      | true ↦
          elim (certificate_shape t round origin digest out) [
            | false ↦ stay (Err BadShape) t out
            | true ↦
                elim (place_for t round origin) [
                  | Ok Counted ↦ stay (Ok 0) t out
                  | Err e ↦ stay (Err e) t out
                  | Ok (Row i) ↦
                      grow (given ms (get_or (rows_of 2053 t) i []) origin digest)
                      (with_row 2053 t i (with_pair (get_or (rows_of 2053 t) i []) origin digest))
                      out
                  | Ok New ↦ grow (given ms (empty_row round) origin digest) (appended 2053 t (with_pair (empty_row round) origin digest)) out
                ]
          ]
    ]

-- THE PROMISE: a is the answer, u the table and o the buffer after the call
pub record CountsCertificate (ms t : List ℕ) (round : ℕ) (origin digest out : List ℕ) (a : Answer) (u o : List ℕ) : Type 0 where
  pub answer : a ≡ (count_certificate ms t round origin digest out).answer
  pub counts : u ≡ (count_certificate ms t round origin digest out).counts
  pub buffer : o ≡ (count_certificate ms t round origin digest out).out

-- A ROW AS A LIST after a certificate that is counted: a pair more, at the end; at quorum the weight goes to 0 and the digests gathered are
-- emptied. v is with_pair row origin digest
pub record PairMore (ms row origin digest v : List ℕ) : Type 0 where
  pub pairs : pairs_of v ≡ pairs_of row ++ ((origin ++ digest) ∷ [])
  pub round : round_of v ≡ round_of row
  pub weight : row_weight ms v ≡ weighed (quorum_in ms) (row_weight ms row) (stake_by ms origin)
  pub digests : gathered ms v ≡ held (quorum_in ms) (row_weight ms row) (stake_by ms origin) (gathered ms row) digest

-- what giving answers and leaves: n digests, the buffer o
pub record Gives (ds : List (List ℕ)) (out : List ℕ) (n : ℕ) (o : List ℕ) : Type 0 where
  pub many : n ≡ length ds
  pub buffer : o ≡ splice out 0 (flat ds)

-- the same with the table t after a pair more: u is the table
pub record CountsIn (ds : List (List ℕ)) (t out : List ℕ) (n : ℕ) (u o : List ℕ) : Type 0 where
  pub many : n ≡ length ds
  pub counts : u ≡ t
  pub buffer : o ≡ splice out 0 (flat ds)
