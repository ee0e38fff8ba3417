use Rattle.std.proofs.Common.{ℕ, map, length, ap, arith, below_more}
use Rattle.problem_data.specs.Cells.{LiesWithin}
use Rattle.problem_data.specs.ProblemView.{range_data}
use Rattle.geo_meaning.proofs.judging.all_within.Goals as goal

pub loop-o-preserved : goal.loop-o-preserved
loop-o-preserved c =
    let P : ℕ → Type 0 = λ o. LiesWithin c.args.problem.now (map range_data c.args.ranges.now) c.args.layout.now o in
    below_more P c.loop-o.o c.loop-o.invariant c.if-not-lies_within.ensures.yes

pub returns-clause-yes : goal.returns-clause-yes
returns-clause-yes c = λ o h. c.loop-o.invariant o (omega (arith, ap length c.objects-o-end.ensures))

pub returns-then-not-lies_within-clause-no : goal.returns-then-not-lies_within-clause-no
returns-then-not-lies_within-clause-no c = λ h. c.if-not-lies_within.ensures.no (h c.loop-o.o (omega (arith, ap length c.objects-o-end.ensures)))
