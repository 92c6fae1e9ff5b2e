-- One call of the ordering, and a run of calls: document 01, 'For the ordering: 11, 2, 14, 12, 13'. Of 11 only round 0 stands here: the
-- other shapes are bytes, and the caller's. Assumes nothing.
use Rattle.std.specs.Prelude.{true, false, ◌||◌, List, [], ◌∷◌, ◌++◌, ℕ, ltb, eqb, length}
use Rattle.consensus.specs.Table.{Cert, State, clash, holds_pair, insert, fresh}
use Rattle.consensus.specs.Leaders.{Agreed, quiet, missing, opens, decide}
use Rattle.consensus.specs.Listing.{Step, Served, serve}

pub data Answer : Type 0 where
  refused : ℕ → Answer
  listed : List Cert → Answer

-- the answer, the listing steps, and the state after
pub record Called : Type 0 where
  pub answer : Answer
  pub steps : List Step
  pub state : State

-- a refusal changes nothing
abbrev pub refuse : ℕ → State → Called
refuse k s = record { answer = refused k; steps = []; state = s }

-- the state with the certificate put in
unfoldable pub put : Cert → State → State
unfolding insert
put x s = record { last = s.last; held = insert x s.held }

-- a commit is tried: old is the state before the call, s the one with the certificate of round n put in
unfoldable pub try_commit : Agreed → ℕ → State → State → Called
unfolding decide serve
try_commit a n old s =
    elim (decide a n s.last s.held) [
      | quiet ↦ record { answer = listed []; steps = []; state = s }
      | missing ↦ refuse 13 old
      | opens ls ↦ let v : Served = serve a.depth ls s in record { answer = listed v.list; steps = v.steps; state = v.state }
    ]

-- 11, 2, 14, 12, 13; places is how many the table has
unfoldable pub accept : Agreed → ℕ → State → Cert → Called
unfolding clash holds_pair put try_commit
accept a places s x =
    elim (eqb x.round 0) [
      | true ↦ refuse 11 s
      | false ↦ elim (ltb x.origin (length a.stakes)) [
        | false ↦ refuse 2 s
        | true ↦ elim (clash x s.held) [
          | true ↦ refuse 14 s
          | false ↦ elim (holds_pair x s.held || ltb (length s.held) places) [
            | false ↦ refuse 12 s
            | true ↦ try_commit a x.round s (put x s)
          ]
        ]
      ]
    ]

-- a history: the state, the acceptances, latest first, each counted; the certificates listed, and the listing steps, in order
pub record History : Type 0 where
  pub state : State
  pub accepted : List Cert
  pub listed : List Cert
  pub steps : List Step

-- a call that is refused is no acceptance
unfoldable pub call : Agreed → ℕ → History → Cert → History
unfolding accept
call a places h x =
    let r : Called = accept a places h.state x in
    elim r.answer [
      | refused k ↦ record { state = r.state; accepted = h.accepted; listed = h.listed; steps = h.steps }
      | listed w ↦ record { state = r.state; accepted = x ∷ h.accepted; listed = h.listed ++ w; steps = h.steps ++ r.steps }
    ]

unfoldable pub run : Agreed → ℕ → History → List Cert → History
unfolding call
run a places h [] = h
run a places h (x ∷ xs) = run a places (call a places h x) xs

-- the fresh start
unfoldable pub start : List (List ℕ) → History
unfolding fresh
start ds = record { state = fresh ds; accepted = []; listed = []; steps = [] }

-- what the calls of a run give, in turn
unfoldable pub calls : Agreed → ℕ → State → List Cert → List Called
unfolding accept
calls a places s [] = []
calls a places s (x ∷ xs) = let r : Called = accept a places s x in r ∷ calls a places r.state xs
