-- What a setup's bytes agree the ordering on, and a decision as the code answers it. Assumes nothing.
use Rattle.std.specs.Prelude.{ℕ, Bool, true, false, List, map, drop}
use Rattle.config.specs.Members.{members_of, stake_in}
use Rattle.config.specs.Committee.{depth_of}
use Rattle.consensus.specs.Leaders as ordering
use Rattle.consensus.specs.Leaders.{Agreed, quiet, missing, opens}
use Rattle.consensus.specs.Candidates.{edition1}
use Rattle.std.specs.Prelude.{Result, Ok, Err}
use Rattle.refusal.specs.declared.Refusal.{Refusal}
use Rattle.refusal.specs.declared.Refusal.TheVariants.{HistoryMissing}

-- the members' stakes in order, the depth, and document 01's candidate rounds
unfoldable pub agreed_of : List ℕ → Agreed
agreed_of setup = record { stakes = map stake_in (members_of (drop 8 setup)); depth = depth_of setup; candidates = edition1 }

-- nothing opens; 13; or a commit opens, whose leaders are found once the table holds the new certificate
abbrev pub kind_of : ordering.Decision → Result Bool Refusal
kind_of quiet = Ok false
kind_of missing = Err HistoryMissing
kind_of (opens ls) = Ok true
