use mathlib.Core.Path.{◌≡◌}
use mathlib.Core.List.{map}
use Rattle.messages.specs.Header.{payload_count, payload_of}
use Rattle.messages.specs.Strings.{payload_item}
use Rattle.messages.proofs.Writing.{Filling}
use Rattle.messages.proofs.strings.write_payload.Given as goal

abbrev pub invariant-loop-i : goal.invariant-loop-i
invariant-loop-i l = (l.n ≡ payload_count l.header) × Filling (map payload_item (payload_of l.header)) 36 l.n l.initial.out l.out l.i
