-- What each question on a member list is answered, for every input: document 01, 10 BadCommittee, then 11 BadShape. Assumes nothing.
use Rattle.std.specs.Prelude.{ℕ, ◌+◌, ◌*◌, ◌/◌, Bool, true, false, ◌&&◌, List, [], length, get_or, drop, eqb, leb}
use Rattle.config.specs.Members.{members_of, has_worker}
use Rattle.config.specs.Committee.{total, quorum, validity, valid_members, valid_setup, standing_of, stake_of, leader_place}
use Rattle.std.specs.Prelude.{Some, None}
use Rattle.refusal.specs.Answers.{Answer}
use Rattle.std.specs.Prelude.{Ok, Err}
use Rattle.refusal.specs.declared.Refusal.TheVariants.{BadCommittee, BadShape}

-- 10 where the member list is outside the domain, else what is answered
unfoldable pub of_members : List ℕ → Answer → Answer
of_members ms a = elim (valid_members ms) [ true ↦ a | false ↦ Err BadCommittee ]

-- 11 where a test fails, else what is answered
unfoldable pub shaped_as : Bool → Answer → Answer
shaped_as b a = elim b [ true ↦ a | false ↦ Err BadShape ]

unfoldable pub committee_answer : List ℕ → Answer
committee_answer ms = of_members ms (Ok (length ms / 69))

unfoldable pub setup_answer : List ℕ → Answer
setup_answer setup = elim (valid_setup setup) [ true ↦ Ok (length (drop 8 setup) / 69) | false ↦ Err BadCommittee ]

unfoldable pub quorum_answer : List ℕ → Answer
quorum_answer ms = of_members ms (Ok (quorum (total (members_of ms))))

unfoldable pub validity_answer : List ℕ → Answer
validity_answer ms = of_members ms (Ok (validity (total (members_of ms))))

-- keys of 32 bytes
unfoldable pub stake_answer : List ℕ → List ℕ → Answer
stake_answer ms key = of_members ms (shaped_as (eqb (length key) 32) (Ok (stake_of (members_of ms) key)))

-- 1 where the key is a member with a worker of this id, else 0
unfoldable pub worker_of : List (List ℕ) → List ℕ → ℕ → ℕ
worker_of ms key id =
    elim (standing_of ms key) [ Some m ↦ elim (has_worker id (get_or ms m.place [])) [ true ↦ 1 | false ↦ 0 ] | None ↦ 0 ]

unfoldable pub worker_answer : List ℕ → List ℕ → ℕ → Answer
worker_answer ms key id = of_members ms (shaped_as (eqb (length key) 32 && leb id 4294967295) (Ok (worker_of (members_of ms) key id)))

-- rounds 1 to 4,294,967,295
unfoldable pub leader_answer : List ℕ → ℕ → Answer
leader_answer ms round = of_members ms (shaped_as (leb 1 round && leb round 4294967295) (Ok (leader_place (length ms / 69) round)))
