use borrow.Author.Rules.{rules}
use Rattle.ordering.proofs.Beginning.{table-started, records-fit}
use Rattle.ordering.proofs.Zeros.{cleared-all}
use Rattle.ordering.proofs.start.start_table.Goals as goal

pub put_rows-requires : goal.put_rows-requires
put_rows-requires c = record { n_bound = search rules; n_in_bounds = search records-fit; n_in_bounds_2 = search rules; table_value = search cleared-all }

pub returns : goal.returns
returns c = search table-started
