-- Counting votes: document 01, 'aggregators', and numbers 10, 11, 5, 12. Assumes nothing.
use Rattle.std.specs.Prelude.{ℕ, ◌≡◌, Bool, true, false, ◌&&◌, List, [], ◌∷◌, ◌++◌, length, get_or, eqb, leb}
use Rattle.config.specs.Committee.{valid_members}
use Rattle.aggregators.specs.Weight.{quorum_in, stake_by, is_in, weighed, weight_after, reached}
use Rattle.aggregators.specs.Listed.{listed, added}
use Rattle.refusal.specs.Answers.{Answer}
use Rattle.std.specs.Prelude.{Ok, Err}
use Rattle.refusal.specs.declared.Refusal.TheVariants.{BadCommittee, BadShape, AuthorityReuse, NoRoom}

-- voters: how many in one byte, then 32 keys, in the order counted
abbrev pub voter_count : List ℕ → ℕ
voter_count t = get_or t 0 0

unfoldable pub voters_of : List ℕ → List (List ℕ)
voters_of t = listed 0 1 32 t

unfoldable pub with_voter : List ℕ → List ℕ → List ℕ
with_voter t author = added 0 1 32 t author

unfoldable pub are_voters : List ℕ → Bool
are_voters t = eqb (length t) 1025 && leb (voter_count t) 32

-- the weight of the votes counted; whether one more reaches quorum
unfoldable pub votes_weight : List ℕ → List ℕ → ℕ
votes_weight ms t = weight_after (quorum_in ms) (stake_by ms) (voters_of t) 0

unfoldable pub vote_reaches : List ℕ → List ℕ → List ℕ → Bool
vote_reaches ms t author = reached (quorum_in ms) (stake_by ms) (voters_of t) author

-- what a call answers, and the voters that it leaves
pub record Vote : Type 0 where
  pub answer : Answer
  pub voters : List ℕ

-- a refusal leaves the voters as they were; a vote that is counted adds its author, and answers 1 at quorum
unfoldable pub refuse : Answer → List ℕ → Vote
refuse a t = record { answer = a; voters = t }

unfoldable pub accept : Bool → List ℕ → List ℕ → Vote
accept b t author = record { answer = elim b [ true ↦ Ok 1 | false ↦ Ok 0 ]; voters = with_voter t author }

-- 10, 11, then a vote whose author was counted is 5, then 32 voters and a new one is 12
unfoldable pub count_vote : List ℕ → List ℕ → List ℕ → Vote
count_vote ms t author =
    elim (valid_members ms) [
      | false ↦ refuse (Err BadCommittee) t
      | true ↦
          elim (are_voters t && eqb (length author) 32) [
            | false ↦ refuse (Err BadShape) t
            | true ↦
                elim (is_in author (voters_of t)) [
                  | true ↦ refuse (Err AuthorityReuse) t
                  | false ↦ elim (leb 32 (voter_count t)) [ true ↦ refuse (Err NoRoom) t | false ↦ accept (vote_reaches ms t author) t author ]
                ]
          ]
    ]

-- THE PROMISE: a is the answer, u the voters after the call
pub record CountsVote (ms t author : List ℕ) (a : Answer) (u : List ℕ) : Type 0 where
  pub answer : a ≡ (count_vote ms t author).answer
  pub voters : u ≡ (count_vote ms t author).voters

-- THE VOTERS AS A LIST after a vote that is counted: one more, at the end; at quorum the weight goes to 0. u is with_voter t author
pub record OneMore (ms t author u : List ℕ) : Type 0 where
  pub voters : voters_of u ≡ voters_of t ++ (author ∷ [])
  pub weight : votes_weight ms u ≡ weighed (quorum_in ms) (votes_weight ms t) (stake_by ms author)
  pub shape : are_voters u ≡ true
