-- The ordering takes a certificate: document 01, consensus, and 'For the ordering: 11, 2, 14, 12, 13'. Assumes nothing.
use Rattle.std.specs.Prelude.{◌≡◌, true, false, ◌&&◌, List, [], map, ℕ, eqb, length, drop}
use Rattle.wire.specs.Bytes.{bytes, splice}
use Rattle.wire.specs.Items.{flat}
use Rattle.table.specs.Rows.{places}
use Rattle.sweep.specs.Kept.{kept}
use Rattle.config.specs.Members.{members_of}
use Rattle.config.specs.Committee.{valid_setup, depth_of, standing_of}
use Rattle.config.specs.declared.committee.Standing.{Standing}
use Rattle.std.specs.Prelude.{Option, Some, None}
use Rattle.consensus.specs.Table.{Cert}
use Rattle.consensus.specs.Order as order
use Rattle.consensus.specs.Order.{Called, accept, refused, listed}
use Rattle.held.specs.Rows.{state_of, cert_with, table_with}
use Rattle.update.specs.Update.{entries_of, stays_row}
use Rattle.leaders.specs.Setup.{agreed_of}
use Rattle.ordering.specs.Answers.{when_done}
use Rattle.refusal.specs.Answers.{Answer}
use Rattle.std.specs.Prelude.{Ok, Err}
use Rattle.refusal.specs.declared.Refusal.TheVariants.{BadCommittee, BadShape, UnknownAuthority, NoRoom, HistoryMissing, DigestClash}
use Rattle.accept.specs.Shape.{valid_certificate, valid_lent}
use Rattle.accept.specs.Commits.{zeroed}

-- ---- the call, as the ordering's definitions have it

-- a member's place; as many as there are, where the key is no member's
abbrev pub place_of : ℕ → Option Standing → ℕ
place_of n (Some m) = m.place
place_of n None = n

unfoldable pub offered : List ℕ → List ℕ → ℕ → List ℕ → List ℕ → Cert
offered setup o r d ps = cert_with (place_of (length (members_of (drop 8 setup))) (standing_of (members_of (drop 8 setup)) o)) r d ps

-- what the definitions make of it, with the table and state that the bytes say
unfoldable pub called_for : List ℕ → Cert → List ℕ → List ℕ → Called
called_for setup x st t = accept (agreed_of setup) (places 1062 t) (state_of st t) x

-- ---- the answer

unfoldable pub refusal : ℕ → Answer
refusal k =
    elim (eqb k 2) [
      | true ↦ Err UnknownAuthority
      | false ↦ elim (eqb k 14) [
        | true ↦ Err DigestClash
        | false ↦ elim (eqb k 12) [ true ↦ Err NoRoom | false ↦ elim (eqb k 13) [ true ↦ Err HistoryMissing | false ↦ Err BadShape ] ]
      ]
    ]

-- the number of those listed
abbrev pub answer_of : order.Answer → Answer
answer_of (refused k) = refusal k
answer_of (listed cs) = Ok (length cs)

-- ---- what it leaves

abbrev pub list_of : order.Answer → List Cert
list_of (refused k) = []
list_of (listed cs) = cs

-- the state's bytes
unfoldable pub last_bytes : List ℕ → List ℕ
last_bytes last = flat (map (bytes 4) last)

-- one thing after a call that lists something, another after any other
unfoldable pub when_listed : Answer → List ℕ → List ℕ → List ℕ
when_listed a new old =
    elim a [
      | Ok n ↦ elim (eqb n 0) [ true ↦ old | false ↦ new ]
      | Err e ↦ old
    ]

-- EVERY LENT SLICE AFTER A CALL that has the answer a: a refusal changes nothing. st is the state, t the table, l the list, and w, s, k
-- the rooms for walk, sort and link test
pub record Leaves (setup : List ℕ) (x : Cert) (a : Answer) (st t l w s k st' t' l' w' s' k' : List ℕ) : Type 0 where
  pub state : st' ≡ when_listed a (last_bytes (called_for setup x st t).state.last) st
  -- the certificate is put in; where something is listed, the rows that go are cleared
  pub table : t' ≡ when_done a (when_listed a (kept 1062 (stays_row (depth_of setup) (called_for setup x st t).state.last) (table_with x t)) (table_with x t)) t
  pub list : l' ≡ when_listed a (splice l 0 (entries_of (list_of (called_for setup x st t).answer))) l
  pub walk : w' ≡ when_listed a (zeroed x t w) w
  pub sort : s' ≡ when_listed a (zeroed x t s) s
  pub link : k' ≡ when_listed a (zeroed x t k) k

-- of a call in the domain
pub record Taken (setup : List ℕ) (x : Cert) (a : Answer) (st t l w s k st' t' l' w' s' k' : List ℕ) : Type 0 where
  pub answer : a ≡ answer_of (called_for setup x st t).answer
  pub leaves : Leaves setup x a st t l w s k st' t' l' w' s' k'

-- ---- any call: 10, then 11, then what the ordering's definitions say

unfoldable pub add_answer : List ℕ → List ℕ → ℕ → List ℕ → List ℕ → List ℕ → List ℕ → List ℕ → List ℕ → List ℕ → List ℕ → Answer
add_answer setup o r d ps st t l w s k =
    elim (valid_setup setup) [
      | false ↦ Err BadCommittee
      | true ↦ elim (valid_certificate o r d ps && valid_lent (length (members_of (drop 8 setup))) st t l w s k) [
        | false ↦ Err BadShape
        | true ↦ answer_of (called_for setup (offered setup o r d ps) st t).answer
      ]
    ]

-- THE PROMISE of `add`
pub record Added (setup o : List ℕ) (r : ℕ) (d ps st t l w s k : List ℕ) (a : Answer) (st' t' l' w' s' k' : List ℕ) : Type 0 where
  pub answer : a ≡ add_answer setup o r d ps st t l w s k
  pub leaves : Leaves setup (offered setup o r d ps) a st t l w s k st' t' l' w' s' k'
