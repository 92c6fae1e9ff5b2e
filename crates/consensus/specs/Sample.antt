-- Runs to try the definitions on: document 01, 'Cases to stand on'. k0 < k1 < k2 < k3, stake 1 each. Assumes nothing.
use Rattle.std.specs.Prelude.{List, [], ◌∷◌, ◌++◌, map, ℕ, ◌+◌, ◌-◌, ◌*◌, length, replicate}
use Rattle.wire.specs.Bytes.{word}
use Rattle.consensus.specs.Table.{Cert, fresh}
use Rattle.consensus.specs.Leaders.{Agreed}
use Rattle.consensus.specs.Listing.{Step}
use Rattle.consensus.specs.Order.{Answer, refused, listed, Called, calls}

unfoldable pub four : ℕ → (ℕ → ℕ → List ℕ) → Agreed
four depth candidates = record { stakes = 1 ∷ 1 ∷ 1 ∷ 1 ∷ []; depth = depth; candidates = candidates }

unfoldable pub all4 : List ℕ
all4 = 0 ∷ 1 ∷ 2 ∷ 3 ∷ []

-- the digest of k2@1 is the one byte `at 2 1`: digests of a round in key order
unfoldable pub at : ℕ → ℕ → ℕ
at k r = 4 * r + k

unfoldable pub genesis4 : List (List ℕ)
unfolding all4 at
genesis4 = map (λ k. at k 0 ∷ []) all4

-- member k's certificate of round r, naming the members js of the round below
unfoldable pub by : ℕ → List ℕ → ℕ → Cert
unfolding at
by r js k = record { origin = k; round = r; digest = at k r ∷ []; parents = map (λ j. at j (r - 1) ∷ []) js }

-- round r: the members ks, each naming js
unfoldable pub round : ℕ → List ℕ → List ℕ → List Cert
unfolding by
round r js ks = map (by r js) ks

-- ---- the runs of P8 to P11

-- full rounds 1 to 4, then one of round 5
unfoldable pub run8 : List Cert
unfolding round all4
run8 = round 1 all4 all4 ++ round 2 all4 all4 ++ round 3 all4 all4 ++ round 4 all4 all4 ++ round 5 all4 (0 ∷ [])

-- then the rest of round 5
unfoldable pub rest9 : List Cert
unfolding round all4
rest9 = round 5 all4 (1 ∷ 2 ∷ 3 ∷ [])

-- then round 6 and one of round 7
unfoldable pub rest10 : List Cert
unfolding round all4
rest10 = round 6 all4 all4 ++ round 7 all4 (0 ∷ [])

-- as run8, but k2 absent in round 2 only; rounds 5 and 6 then full, and the first of round 7
unfoldable pub run11 : List Cert
unfolding round all4
run11 =
    round 1 all4 all4 ++ round 2 all4 (0 ∷ 1 ∷ 3 ∷ []) ++ round 3 (0 ∷ 1 ∷ 3 ∷ []) all4 ++ round 4 all4 all4 ++ round 5 all4 all4
    ++ round 6 all4 all4 ++ round 7 all4 (0 ∷ [])

-- ---- what the calls of a run say, as numbers

-- how many are listed, their digests, then the digest of each one's leader; or 1000 and the refusal's number
unfoldable pub said_by : Answer → List Step → List ℕ
said_by (refused k) ps = 1000 ∷ k ∷ []
said_by (listed cs) ps = length cs ∷ map (λ (c : Cert). word c.digest) cs ++ map (λ (p : Step). word p.leader.digest) ps

unfoldable pub said_all : List Called → List ℕ
unfolding said_by
said_all [] = []
said_all (r ∷ rs) = said_by r.answer r.steps ++ said_all rs

-- a run from the fresh start: depth, places, candidate rounds, calls
unfoldable pub said : ℕ → ℕ → (ℕ → ℕ → List ℕ) → List Cert → List ℕ
unfolding said_all four genesis4
said depth places candidates cs = said_all (calls (four depth candidates) places (fresh genesis4) cs)

-- ---- what they should say

-- n calls that list nothing
unfoldable pub silent : ℕ → List ℕ
silent n = replicate n 0

-- a call that lists these digests, under these leaders
unfoldable pub lists : List ℕ → List ℕ → List ℕ
lists ds ls = length ds ∷ ds ++ ls
