-- What the ordering leaves: document 01, 'A refusal .. changes no table and no buffer'. Assumes nothing.
use Rattle.std.specs.Prelude.{List, ℕ, Ok, Err}
use Rattle.refusal.specs.Answers.{Answer}

-- what a lent slice holds after the call: what the call writes where it is answered, and what was there where it is refused
unfoldable pub when_done : Answer → List ℕ → List ℕ → List ℕ
when_done a new old = elim a [ Ok n ↦ new | Err e ↦ old ]
