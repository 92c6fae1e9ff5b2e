use Rattle.aggregators.proofs.Giving.{gives-most, give-none, give-some}
use native.Mathlib.Omega.{arith}
use borrow.Author.Rules.{rules}
use Rattle.aggregators.proofs.certificates.give.Goals as goal

pub returns-then-k-eq0 : goal.returns-then-k-eq0
returns-then-k-eq0 c = search give-none

pub put_given-requires : goal.put_given-requires
put_given-requires c = search (rules, gives-most c.args.committee.now.members.now c.args.row.now.row.now c.args.origin.now _ c.gives-k.ensures)

pub overflow_cast-result : goal.overflow_cast-result
overflow_cast-result c = omega (arith, gives-most c.args.committee.now.members.now c.args.row.now.row.now c.args.origin.now _ c.gives-k.ensures, c.args.row.now.few)

pub returns : goal.returns
returns c = search give-some
