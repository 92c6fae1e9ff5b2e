-- P1 to P11 OF DOCUMENT 01: every line of the table of `specs/Cases.antt` holds. By computation: a test compares the two sides of each line, and a
-- test that says yes is an equality. Assumes nothing.
use mathlib.Core.Path.{◌≡◌, refl, sym}
use mathlib.Core.Bool.{Bool, true, false}
use mathlib.Core.List.{List, [], ◌∷◌}
use Rattle.wire.specs.Bytes.{part, alike, less, word, bytes}
use Rattle.wire.specs.Items.{chunks, items, sum_of, all_of, key_of, keys, ascends, ascends_from}
use Rattle.wire.proofs.Laws.{alike-true, true-not-false}
use Rattle.config.specs.Members.{members_of, stake_in, worker_count, lawful}
use Rattle.config.specs.Committee.{total, quorum, validity, valid_members, leader_place}
use Rattle.config.specs.Answers.{of_members, quorum_answer, validity_answer}
use Rattle.config.specs.Sample.{id_bytes, member_with, members_with}
use Rattle.consensus.specs.Table.{fresh}
use Rattle.consensus.specs.Candidates.{edition1}
use Rattle.consensus.specs.Order.{calls}
use Rattle.consensus.specs.Sample.{four, all4, at, by, round, run8, rest9, rest10, run11, said_by, said_all, silent, lists}
use Rattle.consensus.specs.Sample as sample
use Rattle.demands.specs.Cases.{Case, Holds, none, one, said, thresholds, ordering, said8, said10, said11, cases}

right : List Case → Bool
right [] = true
right (c ∷ cs) = elim (alike c.computed c.expected) [ true ↦ right cs | false ↦ false ]

right-holds : (cs : List Case) → right cs ≡ true → Holds cs
unfolding right
right-holds [] e = none
right-holds (c ∷ cs) e = go (right-holds cs) (alike c.computed c.expected) refl e where
  go : (right cs ≡ true → Holds cs) → (b : Bool) → alike c.computed c.expected ≡ b → right (c ∷ cs) ≡ true → Holds (c ∷ cs)
  go h true q e = one (alike-true c.computed c.expected q) (h (rw (q, right) at e))
  go h false q e = absurd (true-not-false (sym (rw (q, right) at e)))

computed : right cases ≡ true
unfolding right cases thresholds id_bytes member_with members_with said alike part less word bytes chunks items sum_of all_of key_of keys ascends ascends_from members_of stake_in worker_count lawful total quorum validity valid_members of_members quorum_answer validity_answer ordering said8 said10 said11 sample.said said_by said_all silent lists four all4 at by round run8 rest9 rest10 run11 fresh calls edition1 leader_place
computed = refl

pub document : Holds cases
document = right-holds cases computed
