-- What demand 3 says, clause by clause, in its own words and order. Assumes nothing.
use Rattle.std.specs.Prelude.{◌≡◌, ◌⊎◌, List, [], ◌∷◌, ◌++◌, map, ℕ, suc, ◌+◌, ◌-◌, ◌≤◌, ◌<◌, length, get_or}
use Rattle.config.specs.Committee.{validity, leader_place}
use Rattle.consensus.specs.Among.{In, Once}
use Rattle.consensus.specs.Table.{Cert, State, highest, of_round}
use Rattle.consensus.specs.Leaders.{Agreed, total_stake, stake_naming, leaders, leaders_from}
use Rattle.consensus.specs.Candidates.{Falling}
use Rattle.consensus.specs.Listing.{Cause, later, deep, cleared, list_one, list_all, Step, steps_of, told, trace}
use Rattle.consensus.specs.Order.{refused, listed, put, Called, accept, History, call, run, start}

-- lower rounds first
abbrev pub LowerFirst : List Cert → Type 0
LowerFirst [] = Unit {0}
LowerFirst (x ∷ xs) = ((c : Cert) → In c xs → x.round ≤ c.round) × LowerFirst xs

-- ---- the premises

-- 'from a fresh start': genesis has one digest per member, all different
pub record Start (a : Agreed) (ds : List (List ℕ)) : Type 0 where
  pub each : length ds ≡ length a.stakes
  pub distinct : (i j : ℕ) → i < length ds → j < length ds → get_or ds i [] ≡ get_or ds j [] → i ≡ j

abbrev pub Shares : Cert → Cert → Type 0
Shares c x = (c.origin ≡ x.origin) × (c.round ≡ x.round)

-- 'no two acceptances share origin and round, a resent certificate counting again'
abbrev pub Apart : List Cert → Type 0
Apart [] = Unit {0}
Apart (x ∷ xs) = ((c : Cert) → In c xs → Shares c x → ⊥) × Apart xs

-- 'due are the leader, and all that a chain of held parents joins to it, one round a link, with nothing on it below the leader at its
-- origin's highest listed round (0 before any)'
pub data Chain (s : State) (l : Cert) : Cert → Type 0 where
  self : Chain s l l
  down : {x c : Cert} → Chain s l x → In c s.held → In c.digest x.parents → suc c.round ≡ x.round
      → (get_or s.last c.origin 0 ≡ c.round → ⊥) → Chain s l c

-- what `last` is: of each origin, the highest listed round, 0 before any
pub record Heights (done : Cert → Type 0) (last : List ℕ) : Type 0 where
  pub most : (c : Cert) → done c → c.round ≤ get_or last c.origin 0
  pub some : (o : ℕ) → (get_or last o 0 ≡ 0) ⊎ ((c : Cert) × done c × (c.origin ≡ o) × (c.round ≡ get_or last o 0))

-- 'less those deeper than the depth below the highest listed round'
pub record Due (depth : ℕ) (s : State) (l c : Cert) : Type 0 where
  pub chain : Chain s l c
  pub near : highest s.last ≤ c.round + depth

-- 'exactly the certificates due as its turn begins, each once, lower rounds first'
pub record Lists (depth : ℕ) (s : State) (l : Cert) (w : List Cert) : Type 0 where
  pub only : (c : Cert) → In c w → Due depth s l c
  pub all : (c : Cert) → Due depth s l c → In c w
  pub once : Once w
  pub lower : LowerFirst w

-- 'each commit lists, for each leader in document 01's order': the leaders' turns, one after the other, with their listing steps; done
-- were listed before
pub data Turns (depth : ℕ) : (Cert → Type 0) → State → List Cert → List Cert → List Step → State → Type 1 where
  stop : {done : Cert → Type 0} {s : State} → Turns depth done s [] [] [] s
  turn : {done : Cert → Type 0} {s t : State} {ls w ws : List Cert} {ps : List Step} (l : Cert) → In l s.held → Heights done s.last
      → Lists depth s l w → Turns depth (λ d. In d w ⊎ done d) (list_all depth w s) ls ws ps t
      → Turns depth done s (l ∷ ls) (w ++ ws) (steps_of depth l w s ++ ps) t

-- lowest round first, each above b
abbrev pub Rises : ℕ → List Cert → Type 0
Rises b [] = Unit {0}
Rises b (c ∷ cs) = (b < c.round) × Rises c.round cs

-- a commit opened by a certificate of round n, s being the state with it put in
pub record Commit (a : Agreed) (n : ℕ) (done : Cert → Type 0) (s : State) (w : List Cert) (ps : List Step) (t : State) : Type 1 where
  pub leader : Cert
  pub holds : In leader s.held
  pub round : leader.round ≡ n - 3
  pub origin : leader.origin ≡ leader_place (length a.stakes) (n - 3)
  pub above : highest s.last < leader.round
  -- 'the leader that opens a commit has held children in the next round of at least the validity stake'
  pub support : validity (total_stake a.stakes) ≤ stake_naming a.stakes leader.digest (of_round (suc leader.round) s.held)
  pub served : List Cert
  pub order : leaders_from a s.held leader (leader ∷ []) (a.candidates leader.round (highest s.last)) ≡ leaders served
  pub rises : Rises (highest s.last) served
  pub turns : Turns a.depth done s served w ps t

-- what one call does: it refuses and changes nothing; or lists nothing; or commits
pub data Does (a : Agreed) (s : State) (done : Cert → Type 0) (x : Cert) (r : Called) : Type 1 where
  refusal : (k : ℕ) → r.answer ≡ refused k → r.steps ≡ [] → r.state ≡ s → Does a s done x r
  nothing : r.answer ≡ listed [] → r.steps ≡ [] → r.state ≡ put x s → Does a s done x r
  commits : (w : List Cert) → r.answer ≡ listed w → Commit a x.round done (put x s) w r.steps r.state → Does a s done x r

-- the rule: 'a held certificate goes, at a listing step, when its origin has a later round listed, or when it lies deeper than the
-- agreed depth below the highest listed round'; last is as that step left it
abbrev pub Because : (Cert → Type 0) → ℕ → List ℕ → Cert → Cause → Type 0
Because done depth last c (later r) =
    (r ≡ get_or last c.origin 0) × (c.round < r) × ((d : Cert) × done d × (d.origin ≡ c.origin) × (d.round ≡ r))
Because done depth last c (deep k) = (k ≡ highest last) × (c.round + depth < k) × ((d : Cert) × done d × (d.round ≡ k))

-- 'was cleared by the rule above': it was held until a listing step at which the rule's cause held, and that step's event is in the trace
pub record Gone (depth : ℕ) (done : Cert → Type 0) (steps : List Step) (c : Cert) : Type 0 where
  pub step : Step
  pub among : In step steps
  pub until : In c step.before.held
  pub after : In c (list_one depth step.one step.before).held → ⊥
  pub why : Cause
  pub because : Because done depth (list_one depth step.one step.before).last c why
  pub event : In (cleared c why) (told depth step)
  pub traced : In (cleared c why) (trace depth steps)

-- what holds of the history after any run
pub record Afterwards (a : Agreed) (h : History) : Type 0 where
  -- 'none appears in two commits', nor twice in one: no certificate, and no origin and round
  pub once : Once h.listed
  pub apart : Apart h.listed
  -- what was listed was accepted
  pub were : (c : Cert) → In c h.listed → In c h.accepted
  -- 'highest listed round (0 before any)' is what the state says
  pub heights : Heights (λ d. In d h.listed) h.state.last
  -- each listing step lists one, in order
  pub steps : map (λ (p : Step). p.one) h.steps ≡ h.listed
  -- 'an accepted certificate neither held nor listed was cleared by the rule above'
  pub gone : (c : Cert) → In c h.accepted → (In c h.state.held → ⊥) → (In c h.listed → ⊥)
      → Gone a.depth (λ d. In d h.listed) h.steps c

-- demand 3: after any run of calls, refusals among them, and of the next call x, if no two acceptances share origin and round
pub record Demand (a : Agreed) (places : ℕ) (h : History) (x : Cert) : Type 1 where
  pub does : Does a h.state (λ d. In d h.listed) x (accept a places h.state x)
  pub afterwards : Afterwards a (call a places h x)

abbrev pub Statement : Type 1
Statement =
    (a : Agreed) (places : ℕ) (ds : List (List ℕ)) → Falling a.candidates → Start a ds → (xs : List Cert) (x : Cert)
    → Apart (call a places (run a places (start ds) xs) x).accepted → Demand a places (run a places (start ds) xs) x
