-- What each writer answers and leaves in the lent buffer, for every input: document 01, 11 BadShape. Assumes nothing.
use Rattle.std.specs.Prelude.{ℕ, ◌+◌, ◌≡◌, Bool, true, false, ◌&&◌, List, length, eqb, leb}
use Rattle.wire.specs.Bytes.{splice}
use Rattle.messages.specs.Header.{lawful_round, header_shape}
use Rattle.messages.specs.Strings.{header_string, vote_string}
use Rattle.refusal.specs.Answers.{Answer}
use Rattle.std.specs.Prelude.{Ok, Err}
use Rattle.refusal.specs.declared.Refusal.TheVariants.{BadShape}

-- whether a string has room in a buffer, from at
unfoldable pub fits : List ℕ → ℕ → List ℕ → Bool
fits out at s = leb (at + length s) (length out)

-- a string is written where it may be: the answer is the number of bytes written, or 11
unfoldable pub written_answer : Bool → List ℕ → Answer
written_answer may s = elim may [ true ↦ Ok (length s) | false ↦ Err BadShape ]

-- the buffer then: the string from at, or nothing changed
unfoldable pub written_out : Bool → List ℕ → ℕ → List ℕ → List ℕ
written_out may out at s = elim may [ true ↦ splice out at s | false ↦ out ]

-- the answer r and the buffer out' that a writer leaves
pub record Written (may : Bool) (s out : List ℕ) (at : ℕ) (r : Answer) (out' : List ℕ) : Type 0 where
  pub answer : r ≡ written_answer may s
  pub buffer : out' ≡ written_out may out at s

-- a header's string may be written: its shape is right and there is room
unfoldable pub may_header : List ℕ → List ℕ → ℕ → Bool
may_header h out at = header_shape h && fits out at (header_string h)

-- a vote's or a certificate's: id and origin of 32 bytes, round 1 to 4,294,967,295, and room
unfoldable pub may_vote : List ℕ → ℕ → List ℕ → List ℕ → ℕ → Bool
may_vote id round origin out at =
    eqb (length id) 32 && eqb (length origin) 32 && lawful_round round && fits out at (vote_string id round origin)

-- the promise of each writer
abbrev pub HeaderWritten : List ℕ → List ℕ → ℕ → Answer → List ℕ → Type 0
HeaderWritten h out at r out' = Written (may_header h out at) (header_string h) out at r out'

abbrev pub VoteWritten : List ℕ → ℕ → List ℕ → List ℕ → ℕ → Answer → List ℕ → Type 0
VoteWritten id round origin out at r out' = Written (may_vote id round origin out at) (vote_string id round origin) out at r out'
