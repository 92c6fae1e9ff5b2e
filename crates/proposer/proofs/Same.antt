-- Two results that one promise allows are the same. Assumes nothing.
use mathlib.Core.Path.{◌≡◌, sym, ◌∙◌}
use mathlib.Core.List.{List}
use Prim.Native.Nat.{ℕ}
use Rattle.proposer.specs.Events.{After, Left, event_after}
use Rattle.proposer.specs.Start.{start_after}
use Rattle.refusal.specs.Answers.{Answer, code_of}

pub record Same (r r' : Answer) (s s' h h' : List ℕ) : Type 0 where
  pub answer : r ≡ r'
  pub state : s ≡ s'
  pub header : h ≡ h'

left-same : (a : After) (r r' : Answer) (s s' h h' : List ℕ) → Left a r s h → Left a r' s' h' → Same r r' s s' h h'
left-same a r r' s s' h h' x y =
    record { answer = x.answer ∙ sym y.answer; state = x.state ∙ sym y.state; header = x.header ∙ sym y.header }

pub code_same : (a : Answer) (m n : ℕ) → m ≡ code_of a → n ≡ code_of a → m ≡ n
code_same a m n x y = x ∙ sym y

module _ (r r' : Answer) (s s' h h' : List ℕ) (size timer : ℕ) (state header : List ℕ) where
  pub event-same : (tag p : ℕ) (parents digest : List ℕ) (worker : ℕ) → Left (event_after tag p parents digest worker size timer state header) r s h → Left (event_after tag p parents digest worker size timer state header) r' s' h' → Same r r' s s' h h'
  event-same tag p parents digest worker = left-same (event_after tag p parents digest worker size timer state header) r r' s s' h h'

  pub start-same : (members own genesis : List ℕ) → Left (start_after members own genesis size timer state header) r s h → Left (start_after members own genesis size timer state header) r' s' h' → Same r r' s s' h h'
  start-same members own genesis = left-same (start_after members own genesis size timer state header) r r' s s' h h'
