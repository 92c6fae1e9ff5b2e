-- What a call answers: a value, or one of document 01's refusals; and both as one number: document 01, 'Refusal numbers'. Assumes nothing.
use Rattle.std.specs.Prelude.{ℕ, ◌+◌, ◌*◌, Result, Ok, Err}
use Rattle.refusal.specs.declared.Refusal.{Refusal}
use Rattle.refusal.specs.declared.Refusal.TheVariants.{InvalidHeaderId, UnknownAuthority, MalformedHeader, InvalidSignature, AuthorityReuse, CertificateRequiresQuorum, BadCommittee, BadShape, NoRoom, HistoryMissing, DigestClash}

abbrev pub Answer : Type 0
Answer = Result ℕ Refusal

-- document 01's number of each refusal
abbrev pub number_of : Refusal → ℕ
number_of InvalidHeaderId = 1
number_of UnknownAuthority = 2
number_of MalformedHeader = 3
number_of InvalidSignature = 4
number_of AuthorityReuse = 5
number_of CertificateRequiresQuorum = 7
number_of BadCommittee = 10
number_of BadShape = 11
number_of NoRoom = 12
number_of HistoryMissing = 13
number_of DigestClash = 14

-- the value, 0 on a refusal
abbrev pub value_of : Answer → ℕ
value_of (Ok n) = n
value_of (Err e) = 0

-- 256 times the value, or the number of the refusal
unfoldable pub code_of : Answer → ℕ
code_of (Ok n) = 256 * n
code_of (Err e) = number_of e
