-- Each public function's promise allows one result: two results that it allows are the same. Assumes nothing.
use mathlib.Core.Path.{◌≡◌, sym, ◌∙◌}
use mathlib.Core.List.{List}
use Prim.Native.Nat.{ℕ}
use Rattle.aggregators.specs.Votes.{CountsVote}
use Rattle.aggregators.specs.Certificates.{CountsCertificate}
use Rattle.refusal.specs.Answers.{Answer, code_of}

pub same_code : (a : Answer) (r s : ℕ) → r ≡ code_of a → s ≡ code_of a → r ≡ s
same_code a r s p q = p ∙ sym q

module _ (ms t author : List ℕ) (a b : Answer) (u v : List ℕ) (p : CountsVote ms t author a u) (q : CountsVote ms t author b v) where
  pub same-vote : (a ≡ b) × (u ≡ v)
  same-vote = (p.answer ∙ sym q.answer, p.voters ∙ sym q.voters)

module _ (ms t : List ℕ) (round : ℕ) (origin digest out : List ℕ) (a b : Answer) (u v o w : List ℕ) (p : CountsCertificate ms t round origin digest out a u o) (q : CountsCertificate ms t round origin digest out b v w) where
  pub same-certificate : (a ≡ b) × ((u ≡ v) × (o ≡ w))
  same-certificate = (p.answer ∙ sym q.answer, (p.counts ∙ sym q.counts, p.buffer ∙ sym q.buffer))
