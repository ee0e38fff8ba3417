use Rattle.std.proofs.Common.{◌<◌, ℕ, ℤ, List, length, map, subst, sym, arith, below_more}
use Rattle.geo_base.specs.Tuple.{spot}
use Rattle.problem_data.specs.Problem.{BoxData}
use Rattle.problem_data.specs.Cells.{BoxHas, box_at, IsInRanges}
use Rattle.problem_data.specs.ProblemView.{range_data}
use Rattle.box_ends.proofs.Corners.{box_there}
use Rattle.geo_meaning.proofs.objects.lies_within.Goals as goal

pub loop-a-preserved : goal.loop-a-preserved
loop-a-preserved c =
    let P : ℕ → Type 0 = λ n. (x : List ℤ) → BoxHas c.args.problem.now.dims (box_at c.boxes-own.result.now n) (spot c.args.layout.now c.args.o.0).origin x
    → IsInRanges (map range_data c.args.ranges.now) x in
    below_more P c.loop-a.a-index c.loop-a.invariant
    (λ x a. c.if-not-box_lies_within.ensures.yes x
    (subst (λ (k : ℕ). BoxHas k c.a-item.result (spot c.args.layout.now c.args.o.0).origin x) (sym c.requires.ranges)
    (subst (λ (y : BoxData). BoxHas c.args.problem.now.dims y (spot c.args.layout.now c.args.o.0).origin x) (sym (box_there c.boxes-own.result.now c.loop-a.a-index c.a-item.result c.a-item.is c.loop-a-test.true)) a)))

pub returns-clause-yes : goal.returns-clause-yes
returns-clause-yes c = λ x a.
    let all : List BoxData → Type 0 = λ ys. (n : ℕ) × (n < length ys) × BoxHas c.args.problem.now.dims (box_at ys n) (spot c.args.layout.now c.args.o.0).origin x in
    let m = subst all (sym c.boxes-own.ensures.same) a in
    c.loop-a.invariant m.0 (omega (arith, m.1)) x m.2
