-- Whether a certificate is refused, 14, 12, 13, or is held, and then opens a commit or not. Assumes nothing.
use Rattle.std.specs.Prelude.{Bool, true, false, ◌||◌, ℕ, ltb, length, Result, Err}
use Rattle.refusal.specs.declared.Refusal.{Refusal}
use Rattle.refusal.specs.declared.Refusal.TheVariants.{NoRoom, DigestClash}
use Rattle.consensus.specs.Table.{Cert, State, clash, holds_pair}
use Rattle.consensus.specs.Leaders.{Agreed, decide}
use Rattle.leaders.specs.Setup.{kind_of}

unfoldable pub course_of : Agreed → ℕ → State → Cert → Result Bool Refusal
course_of a places s x =
    elim (clash x s.held) [
      | true ↦ Err DigestClash
      | false ↦ elim (holds_pair x s.held || ltb (length s.held) places) [
        | false ↦ Err NoRoom
        | true ↦ kind_of (decide a x.round s.last s.held)
      ]
    ]
