-- Each public function's promise allows one result: two that it allows are the same. Assumes nothing.
use mathlib.Core.Path.{◌≡◌, sym, ◌∙◌}
use mathlib.Core.List.{List}
use Prim.Native.Nat.{ℕ}
use Rattle.synchronizer.specs.Answers.{ParentsAnswer, PayloadAnswer, deliver_answer, LearnAnswer}
use Rattle.refusal.specs.Answers.{Answer}

module _ (r s : Answer) (u v : List ℕ) where
  pub same-parents : (ms g k h out : List ℕ) → ParentsAnswer ms g k h out r u → ParentsAnswer ms g k h out s v → (r ≡ s) × (u ≡ v)
  same-parents ms g k h out p q = (p.answer ∙ sym q.answer, p.buffer ∙ sym q.buffer)

  pub same-payload : (own pairs h out : List ℕ) → PayloadAnswer own pairs h out r u → PayloadAnswer own pairs h out s v → (r ≡ s) × (u ≡ v)
  same-payload own pairs h out p q = (p.answer ∙ sym q.answer, p.buffer ∙ sym q.buffer)

  pub same-learn : (k new : List ℕ) → LearnAnswer k new r u → LearnAnswer k new s v → (r ≡ s) × (u ≡ v)
  same-learn k new p q = (p.answer ∙ sym q.answer, p.table ∙ sym q.table)

pub same-deliver : (r s : Answer) (ms g k h : List ℕ) → r ≡ deliver_answer ms g k h → s ≡ deliver_answer ms g k h → r ≡ s
same-deliver r s ms g k h p q = p ∙ sym q
