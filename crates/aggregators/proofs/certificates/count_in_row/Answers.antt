use mathlib.Core.Path.{◌∙◌}
use Rattle.std.proofs.lemmas.Result.{MatchResult-at_ok}
use Rattle.aggregators.proofs.Giving.{lent_fits}
use Rattle.aggregators.proofs.Certifying.{item-long, item-open, row-counted}
use Rattle.aggregators.proofs.certificates.count_in_row.Goals as goal

pub row-requires : goal.row-requires
row-requires c = search lent_fits

pub unwrap-row-requires : goal.unwrap-row-requires
unwrap-row-requires c = c.try_into.ensures.0 (search item-long)

pub put_in_row-requires : goal.put_in_row-requires
put_in_row-requires c = let p = c.requires in record { counts_value = p.counts_value; i_bound = p.i_bound; i_bound_2 = p.i_bound_2 }

pub returns : goal.returns
returns c = let r = (MatchResult-at_ok _ _ _ c.unwrap-row.ensures c.try_into.ensures.1).same ∙ c.row.ensures in search row-counted

pub invariant_of-give : goal.invariant_of-give
invariant_of-give c = let r = (MatchResult-at_ok _ _ _ c.unwrap-row.ensures c.try_into.ensures.1).same ∙ c.row.ensures in record { few = search item-open }
