-- How much a history book needs: the events of a commit are as many as it lists and clears. Assumes nothing.
use mathlib.Core.List.{List, [], ◌++◌, ◌∷◌}
use mathlib.Core.Path.{◌≡◌, refl}
use Prim.Native.Nat.{◌+◌, suc, ℕ}
use native.Mathlib.Omega.{arith}
use lib.ListN.{length, length-append}
use Rattle.consensus.specs.Listing.{Fate, Served, Step, clear, clearings, fate, goes, list_all, list_one, raise, serve, stays, steps_of, told, trace}
use Rattle.consensus.specs.Table.{Cert, State, highest}
use Rattle.consensus.specs.Walk.{list_under}

-- each held one stays or is told
pub clear-count : (depth : ℕ) (last : List ℕ) (top : ℕ) (cs : List Cert)
    → length (clearings depth last top cs) + length (clear depth last top cs) ≡ length cs
unfolding clear clearings
clear-count depth last top [] = refl
clear-count depth last top (c ∷ cs) = go (clear-count depth last top cs) (fate depth last top c) refl
  where
    go : length (clearings depth last top cs) + length (clear depth last top cs) ≡ length cs → (f : Fate) → fate depth last top c ≡ f
        → length (clearings depth last top (c ∷ cs)) + length (clear depth last top (c ∷ cs)) ≡ length (c ∷ cs)
    go ih stays e = rw (e, clear, clearings) (omega arith)
    go ih (goes w) e = rw (e, clear, clearings) (omega arith)

trace-app : (depth : ℕ) (ps qs : List Step) → length (trace depth (ps ++ qs)) ≡ length (trace depth ps) + length (trace depth qs)
unfolding trace
trace-app depth [] qs = omega arith
trace-app depth (p ∷ ps) qs =
    let a = trace-app depth ps qs in
    let b = length-append (told depth p) (trace depth (ps ++ qs)) in
    let c = length-append (told depth p) (trace depth ps) in
    omega arith

one-count : (depth : ℕ) (l c : Cert) (s : State)
    → length (told depth (record { leader = l; one = c; before = s })) + length (list_one depth c s).held ≡ suc (length s.held)
unfolding told list_one
one-count depth l c s = let a = clear-count depth (raise c s.last) (highest (raise c s.last)) s.held in omega arith

turn-count : (depth : ℕ) (l : Cert) (w : List Cert) (s : State)
    → length (trace depth (steps_of depth l w s)) + length (list_all depth w s).held ≡ length w + length s.held
unfolding steps_of list_all trace
turn-count depth l [] s = refl
turn-count depth l (c ∷ w) s =
    let p : Step = record { leader = l; one = c; before = s } in
    let a = turn-count depth l w (list_one depth c s) in
    let b = one-count depth l c s in
    let d = length-append (told depth p) (trace depth (steps_of depth l w (list_one depth c s))) in
    omega arith

-- events + held after = listed + held before
pub serve-count : (depth : ℕ) (ls : List Cert) (s : State)
    → length (trace depth (serve depth ls s).steps) + length (serve depth ls s).state.held ≡ length (serve depth ls s).list + length s.held
unfolding serve trace
serve-count depth [] s = refl
serve-count depth (l ∷ ls) s =
    let w : List Cert = list_under depth l s in
    let s' : State = list_all depth w s in
    let v : Served = serve depth ls s' in
    let a = serve-count depth ls s' in
    let b = turn-count depth l w s in
    let c = trace-app depth (steps_of depth l w s) v.steps in
    let d = length-append w v.list in
    omega arith
