-- What a check finds: document 01, 'Refusal numbers'. Assumes nothing.
use Rattle.std.specs.Prelude.{Bool, true, false, Ok, Err}
use Rattle.refusal.specs.Answers.{Answer}
use Rattle.refusal.specs.declared.Refusal.{Refusal}

-- a test holds, or its refusal is given
unfoldable pub ensure : Bool → Refusal → Answer → Answer
ensure test refusal next = elim test [ true ↦ next | false ↦ Err refusal ]

-- a refusal is given, or what comes next
unfoldable pub and_then : Answer → Answer → Answer
and_then (Ok n) next = next
and_then (Err e) next = Err e
