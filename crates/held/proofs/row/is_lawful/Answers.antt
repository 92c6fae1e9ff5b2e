use Rattle.held.proofs.Laws.{lawful-stranger, lawful-many, lawful-later, lawful-0}
use Rattle.held.proofs.row.is_lawful.Goals as goal

pub returns-then-n-origin : goal.returns-then-n-origin
returns-then-n-origin c = search lawful-stranger

pub returns-then-parent_count-gt32 : goal.returns-then-parent_count-gt32
returns-then-parent_count-gt32 c = search lawful-many

pub returns-then-round-ne0 : goal.returns-then-round-ne0
returns-then-round-ne0 c = search lawful-later

pub returns : goal.returns
returns c = search lawful-0
