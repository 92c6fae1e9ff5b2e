-- One call, way by way. Assumes nothing.
use mathlib.Core.Bool.{◌||◌, false, true}
use mathlib.Core.List.{List, []}
use mathlib.Core.Path.{◌≡◌}
use Prim.Native.Nat.{ℕ}
use native.Mathlib.Omega.{arith}
use lib.Dec.{eqb, ltb}
use lib.ListN.{length}
use Rattle.consensus.specs.Leaders.{Agreed, decide, missing, opens, quiet}
use Rattle.consensus.specs.Listing.{serve}
use Rattle.consensus.specs.Order.{accept, listed, put, refuse, refused, try_commit}
use Rattle.consensus.specs.Table.{Cert, State, clash, holds_pair}

pub refused≢listed : {k : ℕ} {w : List Cert} → refused k ≡ listed w → ⊥
refused≢listed q = let z : ◌≡◌ {A = ℕ} 0 1 = cc in omega arith

pub accept-try : (a : Agreed) (places : ℕ) (s : State) (x : Cert) → eqb x.round 0 ≡ false → ltb x.origin (length a.stakes) ≡ true
    → clash x s.held ≡ false → (holds_pair x s.held || ltb (length s.held) places) ≡ true → accept a places s x ≡ try_commit a x.round s (put x s)
unfolding accept
accept-try a places s x t₁ t₂ t₃ t₄ = rw (t₁, t₂, t₃, t₄, accept)

pub try-quiet : (a : Agreed) (n : ℕ) (old s : State) → decide a n s.last s.held ≡ quiet → try_commit a n old s ≡ record { answer = listed []; steps = []; state = s }
unfolding try_commit
try-quiet a n old s e = rw (e, try_commit)

pub try-missing : (a : Agreed) (n : ℕ) (old s : State) → decide a n s.last s.held ≡ missing → try_commit a n old s ≡ refuse 13 old
unfolding try_commit
try-missing a n old s e = rw (e, try_commit)

pub try-opens : (a : Agreed) (n : ℕ) (old s : State) (ls : List Cert) → decide a n s.last s.held ≡ opens ls
    → try_commit a n old s ≡ record { answer = listed (serve a.depth ls s).list; steps = (serve a.depth ls s).steps; state = (serve a.depth ls s).state }
unfolding try_commit
try-opens a n old s ls e = rw (e, try_commit)
