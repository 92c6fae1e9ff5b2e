-- The proposer's start: document 01, 'proposer'; 10 BadCommittee, then 11 BadShape. Assumes nothing.
use Rattle.std.specs.Prelude.{ℕ, Bool, true, false, ◌&&◌, List, [], ◌∷◌, length, eqb, leb}
use Rattle.wire.specs.Bytes.{splice}
use Rattle.config.specs.Members.{members_of}
use Rattle.config.specs.Committee.{valid_members, standing_of}
use Rattle.std.specs.Prelude.{Some, None}
use Rattle.genesis.specs.Genesis.{record_digest, records_of, valid_genesis}
use Rattle.proposer.specs.State.{zeros, advanced}
use Rattle.proposer.specs.Events.{After, kept, settled}
use Rattle.std.specs.Prelude.{Err}
use Rattle.refusal.specs.declared.Refusal.TheVariants.{BadCommittee, BadShape}

-- the digest of each record
unfoldable pub digests_in : List (List ℕ) → List (List ℕ)
digests_in [] = []
digests_in (r ∷ rs) = record_digest r ∷ digests_in rs

-- starts at round 1 with genesis as parents: those of round 0, in the members' order; all other bytes are zeros
unfoldable pub started : List ℕ → List ℕ → List ℕ
started own g = advanced (splice (zeros 3366) 0 own) 0 (digests_in (records_of g))

-- header_size 0 to 4,294,967,295, the timer's verdict 0 or 1, a state's 3,366 bytes, a header's 3,402, and the members' genesis
unfoldable pub valid_start : List ℕ → List ℕ → ℕ → ℕ → List ℕ → List ℕ → Bool
valid_start ms g size timer s h = leb size 4294967295 && leb timer 1 && eqb (length s) 3366 && eqb (length h) 3402 && valid_genesis ms g

-- 10 for members outside the domain, or an own key that is not among them; an own key that is no 32 bytes is 11
unfoldable pub start_after : List ℕ → List ℕ → List ℕ → ℕ → ℕ → List ℕ → List ℕ → After
start_after ms own g size timer s h =
    elim (valid_members ms) [
      | false ↦ kept (Err BadCommittee) s h
      | true ↦
          elim (eqb (length own) 32) [
            | false ↦ kept (Err BadShape) s h
            | true ↦
                elim (standing_of (members_of ms) own) [
                  | None ↦ kept (Err BadCommittee) s h
                  | Some m ↦
                      elim (valid_start ms g size timer s h) [
                        | true ↦ settled size timer (started own g) h
                        | false ↦ kept (Err BadShape) s h
                      ]
                ]
          ]
    ]
