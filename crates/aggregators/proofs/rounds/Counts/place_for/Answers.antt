use mathlib.Core.Path.{◌∙◌}
use Rattle.std.proofs.lemmas.Result.{MatchResult-at_ok}
use Rattle.aggregators.proofs.Counting.{counts-table, place-new, place-no-row, place-fits, place-length, place-few, place-counted, place-full, place-row}
use Rattle.aggregators.proofs.rounds.Counts.place_for.Goals as goal

pub find_round-requires : goal.find_round-requires
find_round-requires c = let v = c.args.self.now.shape in search counts-table

pub room-requires : goal.room-requires
room-requires c = let v = c.args.self.now.shape in search counts-table

pub returns-then-room : goal.returns-then-room
returns-then-room c = search place-new

pub returns-in_default : goal.returns-in_default
returns-in_default c = search place-no-row

pub row-requires : goal.row-requires
row-requires c = let v = c.args.self.now.shape in search place-fits

pub unwrap-row-requires : goal.unwrap-row-requires
unwrap-row-requires c = let v = c.args.self.now.shape in c.try_into.ensures.0 (search place-length)

pub has_origin-requires : goal.has_origin-requires
has_origin-requires c =
    let v = c.args.self.now.shape in
    let r = (MatchResult-at_ok _ _ _ c.unwrap-row.ensures c.try_into.ensures.1).same ∙ c.row.ensures in
    search place-few

pub returns-then-has_origin : goal.returns-then-has_origin
returns-then-has_origin c =
    let v = c.args.self.now.shape in
    let r = (MatchResult-at_ok _ _ _ c.unwrap-row.ensures c.try_into.ensures.1).same ∙ c.row.ensures in
    search place-counted

pub returns-then-pair_count-ge32 : goal.returns-then-pair_count-ge32
returns-then-pair_count-ge32 c =
    let v = c.args.self.now.shape in
    let r = (MatchResult-at_ok _ _ _ c.unwrap-row.ensures c.try_into.ensures.1).same ∙ c.row.ensures in
    search place-full

pub returns : goal.returns
returns c =
    let v = c.args.self.now.shape in
    let r = (MatchResult-at_ok _ _ _ c.unwrap-row.ensures c.try_into.ensures.1).same ∙ c.row.ensures in
    search place-row
