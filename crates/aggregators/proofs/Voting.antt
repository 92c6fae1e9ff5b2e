-- The laws of `specs/Answers.antt` and `specs/Votes.antt`. Assumes nothing.
use mathlib.Core.Path.{◌≡◌, refl, sym, ap, ◌∙◌}
use mathlib.Core.Bool.{Bool, true, false}
use mathlib.Core.List.{List}
use Prim.Native.Nat.{ℕ, ◌+◌, ◌*◌, ◌≤◌, ◌<◌}
use native.Mathlib.Omega.{arith}
use lib.Dec.{eqb, leb}
use lib.ListN.{length, set}
use borrow.Author.Tests.{eq-eqb, ne_eqb, eqb-true, leb-true, le-leb, lt-leb}
use Rattle.wire.specs.Bytes.{splice}
use Rattle.wire.specs.Items.{items, keys}
use Rattle.wire.proofs.Lists.{items-sized}
use Rattle.config.specs.Committee.{valid_members}
use Rattle.config.proofs.Laws.{both}
use Rattle.aggregators.specs.Weight.{quorum_in, stake_by, is_in, enough, reached}
use Rattle.aggregators.specs.Tallies.{fresh, tally_after}
use Rattle.aggregators.specs.Listed.{listed, added}
use Rattle.aggregators.specs.Votes.{voter_count, voters_of, with_voter, are_voters, votes_weight, vote_reaches, refuse, accept, count_vote, CountsVote}
use Rattle.aggregators.specs.declared.tally.Tally.{Tally}
use Rattle.refusal.specs.declared.Refusal.{Refusal}
use Rattle.std.specs.Int.{from_bool}
use Rattle.std.specs.Prelude.{Ok, Err}
use Rattle.refusal.specs.declared.Refusal.TheVariants.{BadCommittee, BadShape, AuthorityReuse, NoRoom}
use Rattle.aggregators.proofs.Weights.{keys-same, weight_is, weight-small}

-- ---- the shape of voters
pub shape-length : (t : List ℕ) → (length t ≡ 1025 → ⊥) → false ≡ are_voters t
unfolding are_voters
shape-length t h = sym (rw (ne_eqb (length t) 1025 h))

pub shape-count : (t : List ℕ) (n : ℕ) → length t ≡ 1025 → n ≡ voter_count t → leb n 32 ≡ are_voters t
unfolding are_voters
shape-count t n h e = sym (rw (eq-eqb (length t) 1025 h, ← e))

pub record Voters (t : List ℕ) : Type 0 where
  pub long : length t ≡ 1025
  pub few : voter_count t ≤ 32

module _ (t : List ℕ) (h : are_voters t ≡ true) where
  pub are-voters : Voters t
  unfolding are_voters
  are-voters = let a = both (eqb (length t) 1025) (leb (voter_count t) 32) h in record { long = eqb-true _ _ a.0; few = leb-true _ _ a.1 }

  pub voters-long : 1 ≤ length t
  voters-long = omega (arith, are-voters.long)

  module _ (n : ℕ) (e : n ≡ voter_count t) where
    pub voters-fit : 1 + n * 32 ≤ length t
    voters-fit = omega (arith, are-voters.long, are-voters.few)

    pub voted-is : (author : List ℕ) (b : Bool) → b ≡ is_in author (items 32 t 1 n) → b ≡ is_in author (voters_of t)
    unfolding voters_of listed
    voted-is author b f = f ∙ rw e

    pub votes-weight-is : (ms : List ℕ) (r : Tally) → r ≡ tally_after (quorum_in ms) (stake_by ms) (keys (items 32 t 1 n)) 0 fresh → r.weight ≡ votes_weight ms t
    unfolding votes_weight voters_of listed
    votes-weight-is ms r f =
        let s = keys-same (items 32 t 1 n) (items-sized 32 t 1 n voters-fit) in
        ap (λ (z : Tally). z.weight) f ∙ weight_is (quorum_in ms) (stake_by ms) (keys (items 32 t 1 n)) 0 fresh ∙ rw (s, e)

    module _ (author : List ℕ) (l : length author ≡ 32) (k : voter_count t < 32) where
      pub voter-fits : 1 + n * 32 + length author ≤ length t
      voter-fits = omega (arith, are-voters.long)

      pub voter-put : (u : List ℕ) → u ≡ splice t (1 + n * 32) author → set u 0 (n + 1) ≡ with_voter t author
      unfolding with_voter added
      voter-put u f = rw (f, e)

-- ---- the weight
pub votes-small : (ms t : List ℕ) (w : ℕ) → valid_members ms ≡ true → w ≡ votes_weight ms t → w ≤ 4294967295
unfolding votes_weight
votes-small ms t w h e = rw e (weight-small ms (voters_of t) h)

pub vote-reaches : (ms t author : List ℕ) (w : ℕ) (b : Bool) → w ≡ votes_weight ms t → b ≡ enough (quorum_in ms) w (stake_by ms author) → b ≡ vote_reaches ms t author
unfolding votes_weight vote_reaches reached
vote-reaches ms t author w b e f = f ∙ rw e

-- 1 or 0
one : (b : Bool) (t author : List ℕ) → Ok (from_bool b) ≡ (accept b t author).answer
unfolding accept
one true t author = refl
one false t author = refl

-- ---- the call, one law for each way through it: ms', t' and author' are what the tests give back of what they are passed
module _ (ms t author : List ℕ) where
  pub vote-committee : (r : Refusal) → r ≡ BadCommittee → valid_members ms ≡ false → CountsVote ms t author (Err r) t
  unfolding count_vote refuse
  vote-committee r e h =
      let z : count_vote ms t author ≡ refuse (Err BadCommittee) t = rw (h, count_vote) in
      rw e (record { answer = rw z; voters = rw z })

  module _ (ms' : List ℕ) (v : valid_members ms' ≡ true) (m : ms' ≡ ms) where
    lawful : valid_members ms ≡ true
    lawful = ap valid_members (sym m) ∙ v

    pub vote-shape : (r : Refusal) → r ≡ BadShape → are_voters t ≡ false → CountsVote ms t author (Err r) t
    unfolding count_vote refuse
    vote-shape r e h =
        let z : count_vote ms t author ≡ refuse (Err BadShape) t = rw (lawful, h, count_vote) in
        rw e (record { answer = rw z; voters = rw z })

    module _ (s : are_voters t ≡ true) where
      pub vote-author : (r : Refusal) → r ≡ BadShape → (length author ≡ 32 → ⊥) → CountsVote ms t author (Err r) t
      unfolding count_vote refuse
      vote-author r e l =
          let z : count_vote ms t author ≡ refuse (Err BadShape) t = rw (lawful, s, ne_eqb (length author) 32 l, count_vote) in
          rw e (record { answer = rw z; voters = rw z })

      module _ (l : length author ≡ 32) (t' author' : List ℕ) (a : t' ≡ t) (b : author' ≡ author) (g : Bool) (k : g ≡ is_in author' (voters_of t')) where
        old : (x : Bool) → g ≡ x → is_in author (voters_of t) ≡ x
        old x y = rw (← a, ← b) (sym k ∙ y)

        pub vote-again : g ≡ true → CountsVote ms t author (Err AuthorityReuse) t
        unfolding count_vote refuse
        vote-again y =
            let z : count_vote ms t author ≡ refuse (Err AuthorityReuse) t = rw (lawful, s, eq-eqb (length author) 32 l, old true y, count_vote) in
            record { answer = rw z; voters = rw z }

        module _ (y : g ≡ false) (n : ℕ) (o : n ≡ voter_count t') where
          many : voter_count t ≡ n
          many = rw (← a) (sym o)

          pub vote-full : 32 ≤ n → CountsVote ms t author (Err NoRoom) t
          unfolding count_vote refuse
          vote-full p =
              let q : 32 ≤ voter_count t = omega (arith, many) in
              let z : count_vote ms t author ≡ refuse (Err NoRoom) t = rw (lawful, s, eq-eqb (length author) 32 l, old false y, le-leb 32 (voter_count t) q, count_vote) in
              record { answer = rw z; voters = rw z }

          module _ (p : n < 32) where
            pub vote-open : voter_count t < 32
            vote-open = omega (arith, many)

            pub vote-counted : (r : Bool) (u : List ℕ) (w : ℕ) → r ≡ vote_reaches ms' t' author' → u ≡ with_voter t author' → w ≡ from_bool r → CountsVote ms t author (Ok w) u
            unfolding count_vote accept
            vote-counted r u w e h i = go r refl where
              go : (x : Bool) → r ≡ x → CountsVote ms t author (Ok w) u
              go x d =
                  let f : vote_reaches ms t author ≡ x = rw (← m, ← a, ← b) (sym e ∙ d) in
                  let z : count_vote ms t author ≡ accept x t author = rw (lawful, s, eq-eqb (length author) 32 l, old false y, lt-leb 32 (voter_count t) vote-open, count_vote, f) in
                  let j : w ≡ from_bool x = i ∙ ap from_bool d in
                  record { answer = ap Ok j ∙ one x t author ∙ rw z; voters = h ∙ ap (with_voter t) b ∙ rw z }
