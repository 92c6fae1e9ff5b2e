-- Each public function's promise allows one result: two that it allows are the same. Assumes nothing.
use mathlib.Core.Path.{◌≡◌, sym, ◌∙◌}
use mathlib.Core.List.{List}
use Prim.Native.Nat.{ℕ}
use Rattle.ordering.specs.Start.{Started}
use Rattle.refusal.specs.Answers.{Answer, code_of}

pub same_code : (a : Answer) (m n : ℕ) → m ≡ code_of a → n ≡ code_of a → m ≡ n
same_code a m n p q = p ∙ sym q

pub same_start : (setup g s t : List ℕ) (r r' : Answer) (s' s'' t' t'' : List ℕ) → Started setup g s t r s' t' → Started setup g s t r' s'' t'' → (r ≡ r') × ((s' ≡ s'') × (t' ≡ t''))
same_start setup g s t r r' s' s'' t' t'' p q =
    (p.answer ∙ sym q.answer, (p.state ∙ sym q.state, p.table ∙ sym q.table))
