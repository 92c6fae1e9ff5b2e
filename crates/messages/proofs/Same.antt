-- Two results that a writer's promise allows are the same: the answer and the buffer, for every input. Assumes nothing.
use mathlib.Core.Path.{◌≡◌, sym, ◌∙◌}
use mathlib.Core.Bool.{Bool}
use mathlib.Core.List.{List}
use Prim.Native.Nat.{ℕ}
use Rattle.messages.specs.Answers.{Written, may_header, may_vote, HeaderWritten, VoteWritten}
use Rattle.messages.specs.Strings.{header_string, vote_string}
use Rattle.refusal.specs.Answers.{Answer}

pub written_same : (may : Bool) (s out : List ℕ) (at : ℕ) (r r' : Answer) (o o' : List ℕ) → Written may s out at r o → Written may s out at r' o' → (r ≡ r') × (o ≡ o')
written_same may s out at r r' o o' w w' = (w.answer ∙ sym w'.answer, w.buffer ∙ sym w'.buffer)

pub header-string-same : (h out : List ℕ) (at : ℕ) (r r' : Answer) (o o' : List ℕ) → HeaderWritten h out at r o → HeaderWritten h out at r' o' → (r ≡ r') × (o ≡ o')
header-string-same h out at = written_same (may_header h out at) (header_string h) out at

-- a vote's and a certificate's
pub vote-string-same : (id origin out : List ℕ) (round at : ℕ) (r r' : Answer) (o o' : List ℕ) → VoteWritten id round origin out at r o → VoteWritten id round origin out at r' o' → (r ≡ r') × (o ≡ o')
vote-string-same id origin out round at = written_same (may_vote id round origin out at) (vote_string id round origin) out at
