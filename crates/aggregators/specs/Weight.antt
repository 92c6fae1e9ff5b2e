-- Counting keys one by one: document 01, 'aggregators'. The weight is a sum over the keys counted, in order, and goes to 0 when it
-- reaches quorum. q is the quorum, stake the stake of a key, w the weight so far. Assumes nothing.
use Rattle.std.specs.Prelude.{ℕ, ◌+◌, Bool, true, false, List, [], ◌∷◌, ◌++◌, leb}
use Rattle.wire.specs.Bytes.{part}
use Rattle.wire.specs.Items.{key_of, first_of, has_part}
use Rattle.config.specs.Members.{members_of, some}
use Rattle.config.specs.Committee.{total, quorum, stake_of}

-- the quorum of a member list, and the stake that a key has in it
abbrev pub quorum_in : List ℕ → ℕ
quorum_in ms = quorum (total (members_of ms))

abbrev pub stake_by : List ℕ → List ℕ → ℕ
stake_by ms key = stake_of (members_of ms) key

-- whether a key is one of those counted, each an item that begins with its key
unfoldable pub is_in : List ℕ → List (List ℕ) → Bool
is_in key counted = some (first_of (has_part 0 key) counted 0)

-- whether a stake more reaches quorum
unfoldable pub enough : ℕ → ℕ → ℕ → Bool
enough q w s = leb q (w + s)

-- a stake more: when weight reaches quorum it goes to 0
unfoldable pub weighed : ℕ → ℕ → ℕ → ℕ
weighed q w s = elim (enough q w s) [ true ↦ 0 | false ↦ w + s ]

-- the weight after these keys
unfoldable pub weight_after : ℕ → (List ℕ → ℕ) → List (List ℕ) → ℕ → ℕ
weight_after q stake [] w = w
weight_after q stake (k ∷ ks) w = weight_after q stake ks (weighed q w (stake k))

-- a digest more: when weight reaches quorum the digests gathered, ds and this one, are given and emptied
unfoldable pub held : ℕ → ℕ → ℕ → List (List ℕ) → List ℕ → List (List ℕ)
held q w s ds d = elim (enough q w s) [ true ↦ [] | false ↦ ds ++ (d ∷ []) ]

-- the digests gathered after these pairs of an origin's key and a digest
unfoldable pub digest_of : List ℕ → List ℕ
digest_of pair = part pair 32 32

unfoldable pub gathered_after : ℕ → (List ℕ → ℕ) → List (List ℕ) → ℕ → List (List ℕ) → List (List ℕ)
gathered_after q stake [] w ds = ds
gathered_after q stake (p ∷ ps) w ds =
    gathered_after q stake ps (weighed q w (stake (key_of p))) (held q w (stake (key_of p)) ds (digest_of p))

-- whether a key that is counted behind these reaches quorum
unfoldable pub reached : ℕ → (List ℕ → ℕ) → List (List ℕ) → List ℕ → Bool
reached q stake ks k = enough q (weight_after q stake ks 0) (stake k)
