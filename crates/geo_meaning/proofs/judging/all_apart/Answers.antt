use Rattle.std.proofs.Common.{◌<◌, ℕ, length, ap, arith, below_more}
use Rattle.problem_data.specs.Cells.{NoCommonCell}
use Rattle.geo_meaning.proofs.Pairs.{apart-all, apart-not}
use Rattle.geo_meaning.proofs.judging.all_apart.Goals as goal

pub loop-o-preserved : goal.loop-o-preserved
loop-o-preserved c =
    let P : ℕ → Type 0 = λ o. (u : ℕ) → u < o → NoCommonCell c.args.problem.now c.args.layout.now o u in
    below_more P c.loop-o.o c.loop-o.invariant c.if-not-apart_from_earlier.ensures.yes

pub returns-clause-yes : goal.returns-clause-yes
returns-clause-yes c = apart-all c.args.problem.now c.args.layout.now c.loop-o.o (omega (arith, ap length c.objects-o-end.ensures)) c.loop-o.invariant

pub returns-then-not-apart_from_earlier-clause-no : goal.returns-then-not-apart_from_earlier-clause-no
returns-then-not-apart_from_earlier-clause-no c = apart-not c.args.problem.now c.args.layout.now c.loop-o.o (omega (arith, ap length c.objects-o-end.ensures)) c.if-not-apart_from_earlier.ensures.no
