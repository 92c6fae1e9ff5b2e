-- Listing, step by step: document 01, consensus, from 'Then for each listed one' to the end. Each step gives the state after it, and tells
-- why each certificate that is cleared at it goes. Assumes nothing.
use Rattle.std.specs.Prelude.{true, false, List, [], ◌∷◌, ◌++◌, ℕ, ◌+◌, max, ltb, get_or, set}
use Rattle.consensus.specs.Table.{Cert, State, highest}
use Rattle.consensus.specs.Walk.{list_under}

-- raise its origin's last committed round to its round if higher
unfoldable pub raise : Cert → List ℕ → List ℕ
raise c last = set last c.origin (max (get_or last c.origin 0) c.round)

-- ---- clear held ones below their origin's last committed round or with round + depth < C

-- why a held one goes: its origin's last committed round r is later; or it lies deeper than the depth below c, the C after this step
pub data Cause : Type 0 where
  later : (r : ℕ) → Cause
  deep : (c : ℕ) → Cause

pub data Fate : Type 0 where
  stays : Fate
  goes : Cause → Fate

-- if both hold, the later round is named
unfoldable pub fate : ℕ → List ℕ → ℕ → Cert → Fate
fate depth last top c =
    elim (ltb c.round (get_or last c.origin 0)) [
      | true ↦ goes (later (get_or last c.origin 0))
      | false ↦ elim (ltb (c.round + depth) top) [ true ↦ goes (deep top) | false ↦ stays ]
    ]

unfoldable pub clear : ℕ → List ℕ → ℕ → List Cert → List Cert
unfolding fate
clear depth last top [] = []
clear depth last top (c ∷ cs) = elim (fate depth last top c) [ stays ↦ c ∷ clear depth last top cs | goes w ↦ clear depth last top cs ]

-- ---- one listing step

-- listing c: raise, set C to the highest of all, clear
unfoldable pub list_one : ℕ → Cert → State → State
unfolding raise clear highest
list_one depth c s =
    let last : List ℕ = raise c s.last in
    record { last = last; held = clear depth last (highest last) s.held }

unfoldable pub list_all : ℕ → List Cert → State → State
unfolding list_one
list_all depth [] s = s
list_all depth (c ∷ cs) s = list_all depth cs (list_one depth c s)

-- ---- what is told of a step

pub data Event : Type 0 where
  listed_under : (leader c : Cert) → Event
  cleared : (c : Cert) (why : Cause) → Event

-- those cleared, each with its cause, in the table's order
unfoldable pub clearings : ℕ → List ℕ → ℕ → List Cert → List Event
unfolding fate
clearings depth last top [] = []
clearings depth last top (c ∷ cs) =
    elim (fate depth last top c) [ stays ↦ clearings depth last top cs | goes w ↦ cleared c w ∷ clearings depth last top cs ]

-- a listing step: the leader whose turn it is, the one listed, and the state before
pub record Step : Type 0 where
  pub leader : Cert
  pub one : Cert
  pub before : State

-- the listing, then the clearings
unfoldable pub told : ℕ → Step → List Event
unfolding clearings raise highest
told depth p =
    listed_under p.leader p.one
    ∷ clearings depth (raise p.one p.before.last) (highest (raise p.one p.before.last)) p.before.held

-- of all steps
unfoldable pub trace : ℕ → List Step → List Event
unfolding told
trace depth [] = []
trace depth (p ∷ ps) = told depth p ++ trace depth ps

-- ---- leader by leader: each one's list is worked out as its turn begins

-- the steps of one leader's turn
unfoldable pub steps_of : ℕ → Cert → List Cert → State → List Step
unfolding list_one
steps_of depth l [] s = []
steps_of depth l (c ∷ cs) s = record { leader = l; one = c; before = s } ∷ steps_of depth l cs (list_one depth c s)

-- what is listed, its steps, and the state after
pub record Served : Type 0 where
  pub list : List Cert
  pub steps : List Step
  pub state : State

unfoldable pub serve : ℕ → List Cert → State → Served
unfolding list_under list_all steps_of
serve depth [] s = record { list = []; steps = []; state = s }
serve depth (l ∷ ls) s =
    let due : List Cert = list_under depth l s in
    let rest : Served = serve depth ls (list_all depth due s) in
    record { list = due ++ rest.list; steps = steps_of depth l due s ++ rest.steps; state = rest.state }
