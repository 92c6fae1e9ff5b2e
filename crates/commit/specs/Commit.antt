-- What a leader's turn and a whole commit leave in the lent bytes. Assumes nothing.
use Rattle.std.specs.Prelude.{ℕ, zero, suc, ◌*◌, ◌≤◌, ◌<◌, ◌≡◌, true, List, [], ◌∷◌, map, length, take, get_or}
use Rattle.wire.specs.Bytes.{splice}
use Rattle.table.specs.Rows.{count_of}
use Rattle.sweep.specs.Kept.{kept}
use Rattle.room.specs.Numbers.{numbers_of, rounds_of}
use Rattle.config.specs.Committee.{leader_place}
use Rattle.consensus.specs.Table.{Cert, cert_at, pair_place, find, highest}
use Rattle.consensus.specs.Walk.{list_under}
use Rattle.consensus.specs.Listing.{list_all, serve}
use Rattle.consensus.proofs.ClearOnce.{raise_all}
use Rattle.consensus.proofs.Climb.{Climb}
use Rattle.held.specs.Rows.{held_of, held_shape, lasts_of, state_of}
use Rattle.update.specs.Update.{entries_of, stays_row, Below}

-- the leader of a round, n being the members
unfoldable pub leader_in : ℕ → List Cert → ℕ → Cert
leader_in n held r = cert_at held (pair_place (leader_place n r) r held)

-- the leaders of the first k of these rounds, the last round's first: as they are served
unfoldable pub leaders_of : ℕ → List Cert → List ℕ → ℕ → List Cert
unfolding leader_in
leaders_of n held rs zero = []
leaders_of n held rs (suc k) = leader_in n held (get_or rs k 0) ∷ leaders_of n held rs k

-- what a turn stands on: a lawful table and state, and room for each place that is held in pile p, marks m and sort room o
pub record Ready (n depth : ℕ) (st t p m o : List ℕ) : Type 0 where
  pub shape : held_shape n t ≡ true
  pub one : 1 ≤ n
  pub few : n ≤ 32
  pub state : length st ≡ n * 4
  pub deep : depth ≤ 4294967295
  pub pile : count_of t * 8 ≤ length p
  pub marks : count_of t ≤ length m
  pub sort : count_of t * 8 ≤ length o

-- where the walk under the leader of a round begins: the first place with its round and digest
pub record StartOf (n : ℕ) (t : List ℕ) (round r : ℕ) : Type 0 where
  pub is : r ≡ find (leader_in n (held_of t) round).round (leader_in n (held_of t) round).digest (held_of t)
  pub low : r < count_of t

-- ---- what stands in the sort room as a turn begins: the places of what is due under leader l

pub record DueAt (depth : ℕ) (st t : List ℕ) (l : Cert) (places : List ℕ) (m : ℕ) : Type 0 where
  pub certs : map (cert_at (held_of t)) (take m (numbers_of places)) ≡ list_under depth l (state_of st t)
  pub low : Below (numbers_of places) m (count_of t)
  pub room : m * 8 ≤ length places

-- ---- certificates cs written: listed from entry `at` on, rounds raised, and the table cleared once

pub record Written (depth : ℕ) (st t list : List ℕ) (at : ℕ) (cs : List Cert) (st' t' list' : List ℕ) : Type 0 where
  pub entries : list' ≡ splice list (at * 37) (entries_of cs)
  pub raised : lasts_of st' ≡ raise_all cs (lasts_of st)
  pub table : t' ≡ kept 1062 (stays_row depth (lasts_of st')) t

-- ---- a leader's turn

pub record Turned (n depth : ℕ) (st t list : List ℕ) (at : ℕ) (l : Cert) (r : ℕ) (st' t' list' : List ℕ) : Type 0 where
  pub count : r ≡ length (list_under depth l (state_of st t))
  pub entries : list' ≡ splice list (at * 37) (entries_of (list_under depth l (state_of st t)))
  pub state : state_of st' t' ≡ list_all depth (list_under depth l (state_of st t)) (state_of st t)
  pub table : t' ≡ kept 1062 (stays_row depth (lasts_of st')) t
  pub shape : held_shape n t' ≡ true
  pub fewer : count_of t' ≤ count_of t
  pub long : length (entries_of (list_under depth l (state_of st t))) ≡ r * 37

-- ---- a whole commit

-- what it stands on: k rounds, the highest first, each with its leader held, all above the last committed ones
pub record Opened (n : ℕ) (st t rounds : List ℕ) (k : ℕ) : Type 0 where
  pub some : 1 ≤ k
  pub room : k * 4 ≤ length rounds
  pub present : (i : ℕ) → i < k → pair_place (leader_place n (get_or (rounds_of rounds) i 0)) (get_or (rounds_of rounds) i 0) (held_of t) < count_of t
  pub rises : Climb (held_of t) (highest (lasts_of st)) (leaders_of n (held_of t) (rounds_of rounds) k)

-- of leaders ls: r entries from the first on, the definition's state, and the table cleared once
pub record Committed (n depth : ℕ) (st t list : List ℕ) (ls : List Cert) (r : ℕ) (st' t' list' : List ℕ) : Type 0 where
  pub count : r ≡ length (serve depth ls (state_of st t)).list
  pub entries : list' ≡ splice list 0 (entries_of (serve depth ls (state_of st t)).list)
  pub state : state_of st' t' ≡ (serve depth ls (state_of st t)).state
  pub table : t' ≡ kept 1062 (stays_row depth (lasts_of st')) t
  pub shape : held_shape n t' ≡ true
