use Rattle.config.proofs.Laws.{ragged, nobody, many, unordered, unlawful, weighed, small}
use borrow.Author.Rules.{rules}
use Rattle.config.proofs.committee.valid_members.Goals as goal

pub returns-then-members-ne0 : goal.returns-then-members-ne0
returns-then-members-ne0 c = search ragged

pub returns-then-n-lt1 : goal.returns-then-n-lt1
returns-then-n-lt1 c = search nobody

pub returns-then-n-gt32 : goal.returns-then-n-gt32
returns-then-n-gt32 c = search many

pub returns-then-not-ascending : goal.returns-then-not-ascending
returns-then-not-ascending c = search unordered

pub returns-then-not-all_lawful : goal.returns-then-not-all_lawful
returns-then-not-all_lawful c = search unlawful

pub total_stake-requires : goal.total_stake-requires
total_stake-requires c = search (rules, small)

pub returns : goal.returns
returns c = search weighed
