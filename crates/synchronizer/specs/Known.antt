-- The known table: document 01, 'a known digest keeps its first record'. Assumes nothing.
use Rattle.std.specs.Prelude.{Bool, true, false, List, ℕ, ltb, Result, Ok, Err}
use Rattle.wire.specs.Items.{first_of, has_part}
use Rattle.std.specs.Prelude.{Some, None}
use Rattle.table.specs.Rows.{count_of, places, rows_of}
use Rattle.genesis.specs.Genesis.{record_digest}
use Rattle.refusal.specs.declared.Refusal.{Refusal}
use Rattle.refusal.specs.declared.Refusal.TheVariants.{NoRoom}

-- whether the table knows a record's digest; 12 where it does not, and has no place for it
unfoldable pub learning : List ℕ → List ℕ → Result Bool Refusal
learning known new =
    elim (first_of (has_part 36 (record_digest new)) (rows_of 68 known) 0) [
      | Some i ↦ Ok true
      | None ↦ elim (ltb (count_of known) (places 68 known)) [ true ↦ Ok false | false ↦ Err NoRoom ]
    ]
