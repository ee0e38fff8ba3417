use Rattle.std.proofs.Common.{ℕ, arith, below_more}
use Rattle.problem_data.specs.Cells.{NoCommonCell}
use Rattle.geo_meaning.proofs.Pairs.{not-common}
use Rattle.geo_meaning.proofs.judging.apart_from_earlier.Goals as goal

pub loop-u-preserved : goal.loop-u-preserved
loop-u-preserved c =
    let P : ℕ → Type 0 = λ u. NoCommonCell c.args.problem.now c.args.layout.now c.args.o u in
    below_more P c.loop-u.u c.loop-u.invariant c.if-not-shares_no_cell.ensures.yes

pub returns-clause-yes : goal.returns-clause-yes
returns-clause-yes c = λ u h. c.loop-u.invariant u (omega arith)

pub returns-then-not-shares_no_cell-clause-no : goal.returns-then-not-shares_no_cell-clause-no
returns-then-not-shares_no_cell-clause-no c =
    (c.loop-u.u, (c.loop-u-test.true, not-common c.args.problem.now c.args.layout.now c.args.o c.loop-u.u c.if-not-shares_no_cell.ensures.no))
