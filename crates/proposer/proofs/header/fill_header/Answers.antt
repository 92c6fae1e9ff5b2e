use Rattle.proposer.proofs.Values.{is_state}
use Rattle.proposer.proofs.Making.{parents-long, waiting-long, header-parts}
use native.Mathlib.Omega.{arith}
use Rattle.proposer.proofs.header.fill_header.Goals as goal

pub parents-requires : goal.parents-requires
parents-requires c = (is_state _ c.requires.state_value).parents

pub put_list-requires-clause-src_in_bounds : goal.put_list-requires-clause-src_in_bounds
put_list-requires-clause-src_in_bounds c = omega (arith, parents-long _ c.requires.state_value _ c.parents.ensures)

pub waiting-requires : goal.waiting-requires
waiting-requires c = (is_state _ c.requires.state_value).waiting

pub put_list-requires-2-clause-src_in_bounds : goal.put_list-requires-2-clause-src_in_bounds
put_list-requires-2-clause-src_in_bounds c = omega (arith, waiting-long _ c.requires.state_value _ c.parents.ensures _ c.waiting.ensures)

pub returns : goal.returns
returns c = search header-parts
