-- Document 01's 'Cases to stand on', the P lines: one table, and what it is that it holds. Assumes nothing.
use Rattle.std.specs.Prelude.{◌≡◌, List, [], ◌∷◌, ◌++◌, ℕ, replicate, Ok, Err}
use Rattle.config.specs.Sample.{members_with}
use Rattle.config.specs.Answers.{quorum_answer, validity_answer}
use Rattle.refusal.specs.Answers.{Answer, number_of}
use Rattle.consensus.specs.Table.{Cert}
use Rattle.consensus.specs.Candidates.{edition1}
use Rattle.consensus.specs.Sample.{at, run8, rest9, rest10, run11, silent, lists}
use Rattle.consensus.specs.Sample as sample

-- a P line: its number, what the definitions compute, and what document 01 says
pub record Case : Type 0 where
  pub line : ℕ
  pub computed : List ℕ
  pub expected : List ℕ

-- each line holds
pub data Holds : List Case → Type 0 where
  none : Holds []
  one : {c : Case} {cs : List Case} → c.computed ≡ c.expected → Holds cs → Holds (c ∷ cs)

-- ---- P1 to P7: thresholds

-- an answer as a list: its value alone, or a refusal's number and 1000
unfoldable pub said : Answer → List ℕ
said (Ok n) = n ∷ []
said (Err e) = number_of e ∷ 1000 ∷ []

-- quorum and validity of a committee with these stakes, beside those that document 01 gives for their total
unfoldable pub thresholds : ℕ → List ℕ → ℕ → ℕ → Case
unfolding said
thresholds line stakes quorum validity =
    record {
      line = line;
      computed = said (quorum_answer (members_with 1 stakes)) ++ said (validity_answer (members_with 1 stakes));
      expected = quorum ∷ validity ∷ [];
    }

-- ---- P8 to P11: the ordering, with depth 50; k2@1 is `at 2 1`

-- what every call of a run says, from the fresh start: how many are listed, their digests, and the digest of each one's leader
unfoldable pub ordering : ℕ → List Cert → List ℕ → Case
ordering line calls expected = record { line = line; computed = sample.said 50 44 edition1 calls; expected = expected }

unfoldable pub said8 : List ℕ
said8 = silent 16 ++ lists (at 3 1 ∷ at 2 1 ∷ at 1 1 ∷ at 0 1 ∷ at 2 2 ∷ []) (replicate 5 (at 2 2))

unfoldable pub said10 : List ℕ
said10 =
    silent 4 ++ lists (at 3 2 ∷ at 1 2 ∷ at 0 2 ∷ at 3 3 ∷ at 2 3 ∷ at 1 3 ∷ at 0 3 ∷ at 0 4 ∷ []) (replicate 8 (at 0 4))

-- under k3@3, then under k0@4
unfoldable pub said11 : List ℕ
said11 =
    silent 23
    ++ lists (
    (at 3 1 ∷ at 2 1 ∷ at 1 1 ∷ at 0 1 ∷ at 3 2 ∷ at 1 2 ∷ at 0 2 ∷ at 3 3 ∷ []) ++ (at 2 3 ∷ at 1 3 ∷ at 0 3 ∷ at 0 4 ∷ [])
    ) (replicate 8 (at 3 3) ++ replicate 4 (at 0 4))

-- THE TABLE
unfoldable pub cases : List Case
unfolding thresholds ordering said8 said10 said11
cases =
    thresholds 1 (1 ∷ []) 1 1
    ∷ thresholds 2 (1 ∷ 1 ∷ 1 ∷ []) 3 1
    ∷ thresholds 3 (1 ∷ 1 ∷ 1 ∷ 1 ∷ []) 3 2
    ∷ thresholds 4 (1 ∷ 1 ∷ 3 ∷ []) 4 2
    ∷ thresholds 5 (1 ∷ 1 ∷ 1 ∷ 1 ∷ 1 ∷ 1 ∷ 1 ∷ []) 5 3
    ∷ thresholds 6 (2 ∷ 3 ∷ 5 ∷ []) 7 4
    ∷ thresholds 7 (8388608 ∷ 8388607 ∷ 1 ∷ []) 11184811 5592406
    ∷ ordering 8 run8 said8
    ∷ ordering 9 (run8 ++ rest9) (said8 ++ silent 3)
    ∷ ordering 10 (run8 ++ rest9 ++ rest10) (said8 ++ silent 3 ++ said10)
    ∷ ordering 11 run11 said11
    ∷ []
