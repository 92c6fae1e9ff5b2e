-- Who leads, when a commit opens, and which earlier leaders join: document 01, consensus, from 'With its round n' to 'They are served lowest
-- round first'. Reads the table, changes nothing. Assumes nothing.
use Rattle.std.specs.Prelude.{Bool, true, false, ◌&&◌, List, [], ◌∷◌, ℕ, zero, suc, ◌+◌, ◌-◌, ◌%◌, leb, ltb, eqb, length, get_or}
use Rattle.wire.specs.Bytes.{alike}
use Rattle.config.specs.Committee.{validity, leader_place}
use Rattle.consensus.specs.Table.{Cert, highest, of_round, is_empty}

-- what is agreed at the start: the members' stakes, the depth, and for L and C the rounds in which earlier leaders are looked for, falling
-- (Candidates.antt)
pub record Agreed : Type 0 where
  pub stakes : List ℕ
  pub depth : ℕ
  pub candidates : ℕ → ℕ → List ℕ

-- the total T of all stakes
unfoldable pub total_stake : List ℕ → ℕ
total_stake [] = 0
total_stake (x ∷ xs) = x + total_stake xs

-- ---- the leader of a round: the member at place R mod the member count, if held

pub data Hit : Type 0 where
  absent : Hit
  present : Cert → Hit

unfoldable pub by_origin : ℕ → List Cert → Hit
by_origin o [] = absent
by_origin o (c ∷ cs) = elim (eqb c.origin o) [ true ↦ present c | false ↦ by_origin o cs ]

unfoldable pub leader : Agreed → ℕ → List Cert → Hit
unfolding by_origin of_round
leader a r held = by_origin (leader_place (length a.stakes) r) (of_round r held)

-- ---- the stake of those that name the leader as parent

unfoldable pub is_in : List ℕ → List (List ℕ) → Bool
is_in d [] = false
is_in d (x ∷ xs) = elim (alike x d) [ true ↦ true | false ↦ is_in d xs ]

unfoldable pub stake_naming : List ℕ → List ℕ → List Cert → ℕ
unfolding is_in
stake_naming ss d [] = 0
stake_naming ss d (c ∷ cs) =
    elim (is_in d c.parents) [ true ↦ get_or ss c.origin 0 + stake_naming ss d cs | false ↦ stake_naming ss d cs ]

-- ---- the link test: through held parents, round by round

-- one of the front names this digest as parent
unfoldable pub named : List ℕ → List Cert → Bool
unfolding is_in
named d [] = false
named d (c ∷ cs) = elim (is_in d c.parents) [ true ↦ true | false ↦ named d cs ]

-- of those of the round below, the ones that the front names
unfoldable pub followed : List Cert → List Cert → List Cert
unfolding named
followed front [] = []
followed front (c ∷ cs) = elim (named c.digest front) [ true ↦ c ∷ followed front cs | false ↦ followed front cs ]

unfoldable pub has_digest : List ℕ → List Cert → Bool
has_digest d [] = false
has_digest d (c ∷ cs) = elim (alike c.digest d) [ true ↦ true | false ↦ has_digest d cs ]

-- a round visited holds nothing (13); or whether the candidate is reached
pub data Link : Type 0 where
  gap : Link
  link : Bool → Link

-- every round below the upper leader's down to the candidate's is visited, even with nothing left to follow. The candidate has round r and
-- digest d, the front stands n rounds above it
unfoldable pub linked : ℕ → ℕ → List ℕ → List Cert → List Cert → Link
unfolding followed of_round has_digest
linked zero r d front held = link (has_digest d front)
linked (suc n) r d front held =
    elim (is_empty (of_round (r + n) held)) [ true ↦ gap | false ↦ linked n r d (followed front (of_round (r + n) held)) held ]

-- ---- the leaders of a commit

pub data Leaders : Type 0 where
  no_history : Leaders
  leaders : List Cert → Leaders

-- candidate rounds one by one: a held candidate joins if u, the leader taken last, reaches it, and is then the leader taken last. The taken
-- stand lowest round first, as they are served
unfoldable pub leaders_from : Agreed → List Cert → Cert → List Cert → List ℕ → Leaders
unfolding leader linked
leaders_from a held u taken [] = leaders taken
leaders_from a held u taken (r ∷ rs) =
    elim (leader a r held) [
      | absent ↦ leaders_from a held u taken rs
      | present c ↦ elim (linked (u.round - r) r c.digest (u ∷ []) held) [
        | gap ↦ no_history
        | link b ↦ elim b [ true ↦ leaders_from a held c (c ∷ taken) rs | false ↦ leaders_from a held u taken rs ]
      ]
    ]

-- what a certificate of round n opens: nothing; 13; or a commit of these leaders
pub data Decision : Type 0 where
  quiet : Decision
  missing : Decision
  opens : List Cert → Decision

abbrev pub decided : Leaders → Decision
decided no_history = missing
decided (leaders ls) = opens ls

-- n odd and at least 5; L = n - 3 above C; its leader held; round L + 1 not empty (13), and its stake that names the leader not under validity
unfoldable pub decide : Agreed → ℕ → List ℕ → List Cert → Decision
unfolding highest leader of_round stake_naming total_stake leaders_from
decide a n last held =
    elim (eqb (n % 2) 1 && leb 5 n && ltb (highest last) (n - 3)) [
      | false ↦ quiet
      | true ↦ elim (leader a (n - 3) held) [
        | absent ↦ quiet
        | present l ↦ elim (is_empty (of_round (n - 2) held)) [
          | true ↦ missing
          | false ↦ elim (ltb (stake_naming a.stakes l.digest (of_round (n - 2) held)) (validity (total_stake a.stakes))) [
            | true ↦ quiet
            | false ↦ decided (leaders_from a held l (l ∷ []) (a.candidates (n - 3) (highest last)))
          ]
        ]
      ]
    ]
