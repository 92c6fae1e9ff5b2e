-- A commit, once the certificate is put in: st is the state, t the table, l the list. Assumes nothing.
use Rattle.std.specs.Prelude.{◌≡◌, true, ◌||◌, List, ℕ, ◌-◌, ◌*◌, ◌/◌, ◌≤◌, ◌<◌, ltb, length, replicate}
use Rattle.wire.specs.Bytes.{splice}
use Rattle.table.specs.Rows.{count_of, places}
use Rattle.room.specs.Numbers.{rounds_of}
use Rattle.config.specs.Committee.{valid_setup, depth_of}
use Rattle.consensus.specs.Table.{Cert, insert, pair_place}
use Rattle.consensus.specs.Leaders.{decide, opens}
use Rattle.held.specs.Rows.{held_of, held_shape, lasts_of, table_with}
use Rattle.leaders.specs.Setup.{agreed_of, kind_of}
use Rattle.std.specs.Prelude.{Ok}
use Rattle.commit.specs.Commit.{leaders_of, Opened, Committed}

-- a certificate of this round opens a commit
pub record Opening (setup : List ℕ) (round : ℕ) (st t : List ℕ) : Type 0 where
  pub valid : valid_setup setup ≡ true
  pub shape : held_shape ((length setup - 8) / 69) t ≡ true
  pub state : length st ≡ (length setup - 8) / 69 * 4
  pub opens : Ok true ≡ kind_of (decide (agreed_of setup) round (lasts_of st) (held_of t))

-- k rounds: those of the leaders that the definition opens with
pub record Found (setup : List ℕ) (round : ℕ) (st t rounds : List ℕ) (k : ℕ) : Type 0 where
  pub opened : Opened ((length setup - 8) / 69) st t rounds k
  pub order : decide (agreed_of setup) round (lasts_of st) (held_of t) ≡ opens (leaders_of ((length setup - 8) / 69) (held_of t) (rounds_of rounds) k)

-- r are listed under the leaders that the definition opens with
pub record Commits (setup : List ℕ) (round : ℕ) (st t l : List ℕ) (r : ℕ) (st' t' l' : List ℕ) : Type 0 where
  pub leaders : List Cert
  pub order : decide (agreed_of setup) round (lasts_of st) (held_of t) ≡ opens leaders
  pub done : Committed ((length setup - 8) / 69) (depth_of setup) st t l leaders r st' t' l'

-- ---- before the certificate is put in

-- a call in the domain, of the member at place o; w, s and k are the rooms for walk, sort and link test
pub record Given (setup : List ℕ) (o r : ℕ) (d ps st t l w s k : List ℕ) : Type 0 where
  pub valid : valid_setup setup ≡ true
  pub member : o < (length setup - 8) / 69
  pub low : 1 ≤ r
  pub high : r ≤ 4294967295
  pub digest : length d ≡ 32
  pub whole : length ps / 32 * 32 ≡ length ps
  pub few : length ps ≤ 1024
  pub state : length st ≡ (length setup - 8) / 69 * 4
  pub shape : held_shape ((length setup - 8) / 69) t ≡ true
  pub list : places 1062 t * 37 ≤ length l
  pub walk : places 1062 t * 8 ≤ length w
  pub sort : places 1062 t * 8 ≤ length s
  pub link : places 1062 t * 8 ≤ length k

-- certificate x has a place, and opens a commit
pub record Opens (setup : List ℕ) (x : Cert) (st t : List ℕ) : Type 0 where
  pub place : (ltb (pair_place x.origin x.round (held_of t)) (count_of t) || ltb (count_of t) (places 1062 t)) ≡ true
  pub opens : Ok true ≡ kind_of (decide (agreed_of setup) x.round (lasts_of st) (insert x (held_of t)))

-- the rooms then: zeros in as much as was used, 8 bytes for each that is held with x put in
unfoldable pub zeroed : Cert → List ℕ → List ℕ → List ℕ
zeroed x t room = splice room 0 (replicate (count_of (table_with x t) * 8) 0)

pub record Rooms (x : Cert) (t w s k w' s' k' : List ℕ) : Type 0 where
  pub walk : w' ≡ zeroed x t w
  pub sort : s' ≡ zeroed x t s
  pub link : k' ≡ zeroed x t k
