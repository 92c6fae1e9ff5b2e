-- The definitions run: a later edition's P11, limits, holes, refusals, and traces. P8 to P11 stand in `demands`. Assumes nothing.
use mathlib.Core.Path.{◌≡◌, refl}
use mathlib.Core.Bool.{true}
use mathlib.Core.List.{List, [], ◌∷◌, ◌++◌}
use Prim.Native.Nat.{ℕ}
use lib.ListN.{replicate}
use Rattle.wire.specs.Bytes.{alike, word}
use Rattle.config.specs.Committee.{validity, leader_place}
use Rattle.consensus.specs.Table.{Cert, fresh}
use Rattle.consensus.specs.Candidates.{edition1, edition2}
use Rattle.consensus.specs.Listing.{later, deep, Event, listed_under, cleared, Step, trace}
use Rattle.consensus.specs.Order.{Called, calls}
use Rattle.consensus.specs.Sample.{four, all4, genesis4, at, by, round, run8, rest9, rest10, run11, said_by, said_all, said, silent, lists}

-- ---- runs

-- after P8, k2@1 is sent again
pub again : List Cert
unfolding round all4
again = round 1 all4 (2 ∷ [])

-- round 3, the stake sum's, is missing
pub holed : List Cert
unfolding round all4
holed = round 1 all4 all4 ++ round 2 all4 all4 ++ round 5 [] (0 ∷ [])

-- these of round 3 name k2@2
pub naming : List ℕ → List Cert
unfolding round all4
naming ks = round 1 all4 all4 ++ round 2 all4 all4 ++ round 3 all4 ks ++ round 5 [] (0 ∷ [])

-- k2@2 and k0@4 are absent; k2@6 reaches k1@5 and k3@3, and k1@5 does not reach k3@3
pub pairwise : List Cert
unfolding round all4
pairwise =
    round 1 all4 all4 ++ round 2 all4 (0 ∷ 1 ∷ 3 ∷ []) ++ round 3 (0 ∷ 1 ∷ 3 ∷ []) all4 ++ round 4 (0 ∷ 1 ∷ 2 ∷ []) (1 ∷ [])
    ++ round 4 all4 (2 ∷ 3 ∷ []) ++ round 5 (1 ∷ []) (1 ∷ []) ++ round 5 (1 ∷ 2 ∷ 3 ∷ []) (0 ∷ 2 ∷ 3 ∷ []) ++ round 6 all4 all4
    ++ round 7 all4 all4 ++ round 9 [] (0 ∷ [])

-- k2@2 and rounds 4 and 5 are absent: the link test from k2@6 to k3@3 meets an empty round, with nothing left to follow
pub gapped : List Cert
unfolding round all4
gapped =
    round 1 all4 all4 ++ round 2 all4 (0 ∷ 1 ∷ 3 ∷ []) ++ round 3 (0 ∷ 1 ∷ 3 ∷ []) all4 ++ round 6 all4 all4 ++ round 7 all4 all4
    ++ round 9 [] (0 ∷ [])

pub bare : ℕ → ℕ → ℕ → Cert
bare o r d = record { origin = o; round = r; digest = d ∷ []; parents = [] }

-- six places, four of them genesis: k0@1, and again with another digest; k1@1 fills the table; it again; then a new pair, a held digest, a
-- stranger, and a stranger's of round 0
pub full : List Cert
unfolding bare
full =
    bare 0 1 99 ∷ bare 0 1 98 ∷ bare 1 1 97 ∷ bare 1 1 96 ∷ bare 2 1 95 ∷ bare 2 2 98 ∷ bare 4 1 94 ∷ bare 4 0 94 ∷ []

-- ---- what is told, as numbers: 1, the leader, the one listed; 2, the one cleared, the later round; 3, the one cleared, C

pub event : Event → List ℕ
event (listed_under l c) = 1 ∷ word l.digest ∷ word c.digest ∷ []
event (cleared c (later r)) = 2 ∷ word c.digest ∷ r ∷ []
event (cleared c (deep k)) = 3 ∷ word c.digest ∷ k ∷ []

pub events : List Event → List ℕ
unfolding event
events [] = []
events (e ∷ es) = event e ++ events es

pub steps : List Called → List Step
steps [] = []
steps (r ∷ rs) = r.steps ++ steps rs

pub told_of : ℕ → List Cert → List ℕ
unfolding four genesis4 events steps
told_of depth cs = events (trace depth (steps (calls (four depth edition1) 44 (fresh genesis4) cs)))

-- ---- what they should say

pub list8 : List ℕ
unfolding at
list8 = at 3 1 ∷ at 2 1 ∷ at 1 1 ∷ at 0 1 ∷ at 2 2 ∷ []

pub list10 : List ℕ
unfolding at
list10 = at 3 2 ∷ at 1 2 ∷ at 0 2 ∷ at 3 3 ∷ at 2 3 ∷ at 1 3 ∷ at 0 3 ∷ at 0 4 ∷ []

pub list11 : List ℕ
unfolding at
list11 = at 3 1 ∷ at 2 1 ∷ at 1 1 ∷ at 0 1 ∷ at 3 2 ∷ at 1 2 ∷ at 0 2 ∷ at 3 3 ∷ at 2 3 ∷ at 1 3 ∷ at 0 3 ∷ at 0 4 ∷ []

pub said8 : List ℕ
unfolding list8 at silent lists
said8 = silent 16 ++ lists list8 (replicate 5 (at 2 2))

-- under k1@5, then under k2@6
pub pairs : List ℕ
unfolding at lists
pairs =
    lists (
    (at 3 1 ∷ at 2 1 ∷ at 1 1 ∷ at 0 1 ∷ at 3 2 ∷ at 1 2 ∷ at 0 2 ∷ at 2 3 ∷ at 1 3 ∷ at 0 3 ∷ at 1 4 ∷ at 1 5 ∷ [])
    ++ (at 3 3 ∷ at 3 4 ∷ at 2 4 ∷ at 3 5 ∷ at 2 5 ∷ at 0 5 ∷ at 2 6 ∷ [])
    ) (replicate 12 (at 1 5) ++ replicate 7 (at 2 6))

pub one : ℕ → ℕ → List ℕ
one l d = 1 ∷ l ∷ d ∷ []

pub old : ℕ → ℕ → List ℕ
old d r = 2 ∷ d ∷ r ∷ []

pub low : ℕ → ℕ → List ℕ
low d c = 3 ∷ d ∷ c ∷ []

-- P8 with depth 0. k3@1 is listed: C is 1, so genesis goes; k3's has a later round. k2@2 is listed: C is 2; for k2@1 both causes hold
pub told8 : List ℕ
unfolding at one old low
told8 =
    one (at 2 2) (at 3 1) ++ low (at 0 0) 1 ++ low (at 1 0) 1 ++ low (at 2 0) 1 ++ old (at 3 0) 1
    ++ one (at 2 2) (at 2 1) ++ one (at 2 2) (at 1 1) ++ one (at 2 2) (at 0 1)
    ++ one (at 2 2) (at 2 2) ++ low (at 0 1) 2 ++ low (at 1 1) 2 ++ old (at 2 1) 2 ++ low (at 3 1) 2

-- k2@1 sent again after P8: listed late, and cleared at once, for the last committed round does not fall
pub told_again : List ℕ
unfolding at one old
told_again =
    one (at 2 2) (at 3 1) ++ old (at 3 0) 1 ++ one (at 2 2) (at 2 1) ++ old (at 2 0) 1 ++ one (at 2 2) (at 1 1) ++ old (at 1 0) 1
    ++ one (at 2 2) (at 0 1) ++ old (at 0 0) 1 ++ one (at 2 2) (at 2 2) ++ old (at 2 1) 2
    ++ one (at 0 4) (at 2 1) ++ old (at 2 1) 2 ++ one (at 0 4) (at 3 2) ++ old (at 3 1) 2 ++ one (at 0 4) (at 1 2) ++ old (at 1 1) 2
    ++ one (at 0 4) (at 0 2) ++ old (at 0 1) 2 ++ one (at 0 4) (at 3 3) ++ old (at 3 2) 3 ++ one (at 0 4) (at 2 3) ++ old (at 2 2) 3
    ++ one (at 0 4) (at 1 3) ++ old (at 1 2) 3 ++ one (at 0 4) (at 0 3) ++ old (at 0 2) 3 ++ one (at 0 4) (at 0 4) ++ old (at 0 3) 4

-- depth 50 and 44 places, unless it says otherwise
pub record Examples : Type 0 where
  -- P11 in edition 2: everything under k0@4 alone
  pub even-leaders : alike (said 50 44 edition2 run11) (silent 23 ++ lists list11 (replicate 12 (at 0 4))) ≡ true
  -- the premise of demand 3 is needed: k2@1, sent again, is listed again
  pub again-listed : alike (said 50 44 edition1 (run8 ++ again ++ rest9 ++ rest10)) (said8 ++ silent 8 ++ lists (at 2 1 ∷ list10) (replicate 9 (at 0 4))) ≡ true
  -- round 1 is not deeper than 1 below C, which is 2; it is deeper than 0
  pub depth-1 : alike (said 1 44 edition1 (run8 ++ again ++ rest9 ++ rest10)) (said8 ++ silent 8 ++ lists (at 2 1 ∷ list10) (replicate 9 (at 0 4))) ≡ true
  pub depth-0 : alike (said 0 44 edition1 (run8 ++ again ++ rest9 ++ rest10)) (said8 ++ silent 8 ++ lists list10 (replicate 8 (at 0 4))) ≡ true
  pub no-stake-round : alike (said 50 44 edition1 holed) (silent 8 ++ (1000 ∷ 13 ∷ [])) ≡ true
  -- validity is 2
  pub stake-1 : alike (said 50 44 edition1 (naming (0 ∷ []))) (silent 10) ≡ true
  pub stake-2 : alike (said 50 44 edition1 (naming (0 ∷ 1 ∷ []))) (silent 10 ++ lists list8 (replicate 5 (at 2 2))) ≡ true
  -- the link test goes from the leader taken last
  pub taken-last : alike (said 50 44 edition1 pairwise) (silent 26 ++ pairs) ≡ true
  pub no-link-round : alike (said 50 44 edition1 gapped) (silent 19 ++ (1000 ∷ 13 ∷ [])) ≡ true
  -- a full table takes an overwrite and refuses a new pair with 12; a clash in it is 14; then 2 and 11
  pub table-full : alike (said 50 6 edition1 full) (silent 4 ++ (1000 ∷ 12 ∷ 1000 ∷ 14 ∷ 1000 ∷ 2 ∷ 1000 ∷ 11 ∷ [])) ≡ true
  pub causes : alike (told_of 0 run8) told8 ≡ true
  pub late : alike (told_of 50 (run8 ++ again ++ rest9 ++ rest10)) told_again ≡ true

pub examples : Examples
unfolding again holed naming pairwise gapped full bare event events steps told_of list8 list10 list11 said8 pairs one old low told8 told_again said calls fresh trace edition1 edition2 four all4 genesis4 word at by round run8 rest9 rest10 run11 said_by said_all silent lists alike validity leader_place
examples =
    record {
      even-leaders = refl;
      again-listed = refl;
      depth-1 = refl;
      depth-0 = refl;
      no-stake-round = refl;
      stake-1 = refl;
      stake-2 = refl;
      taken-last = refl;
      no-link-round = refl;
      table-full = refl;
      causes = refl;
      late = refl;
    }
