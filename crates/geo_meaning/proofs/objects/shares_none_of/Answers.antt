use Rattle.std.proofs.Common.{◌<◌, ℕ, ℤ, List, length, subst, sym, arith, below_more}
use Rattle.geo_base.specs.Tuple.{spot}
use Rattle.problem_data.specs.Problem.{BoxData}
use Rattle.problem_data.specs.Cells.{BoxHas, box_at}
use Rattle.box_ends.proofs.Corners.{box_there}
use Rattle.geo_meaning.proofs.objects.shares_none_of.Goals as goal

pub loop-b-preserved : goal.loop-b-preserved
loop-b-preserved c =
    let P : ℕ → Type 0 = λ n. (x : List ℤ) → BoxHas c.args.problem.now.dims c.args.a.now (spot c.args.layout.now c.args.o.0).origin x
    → BoxHas c.args.problem.now.dims (box_at c.boxes-others.result.now n) (spot c.args.layout.now c.args.u.0).origin x → ⊥ in
    below_more P c.loop-b.b-index c.loop-b.invariant
    (λ x a b. c.if-not-box_shares_no_cell.ensures.yes x
    (subst (λ (k : ℕ). BoxHas k c.args.a.now (spot c.args.layout.now c.args.o.0).origin x) (sym c.dims.ensures) a)
    (subst (λ (k : ℕ). BoxHas k c.b-item.result (spot c.args.layout.now c.args.u.0).origin x) (sym c.dims.ensures)
    (subst (λ (y : BoxData). BoxHas c.args.problem.now.dims y (spot c.args.layout.now c.args.u.0).origin x) (sym (box_there c.boxes-others.result.now c.loop-b.b-index c.b-item.result c.b-item.is c.loop-b-test.true)) b)))

pub returns-clause-yes : goal.returns-clause-yes
returns-clause-yes c = λ x a b.
    let same = c.boxes-others.ensures.same in
    let all : List BoxData → Type 0 = λ ys. (n : ℕ) × (n < length ys) × BoxHas c.args.problem.now.dims (box_at ys n) (spot c.args.layout.now c.args.u.0).origin x in
    let m = subst all (sym same) b in
    c.loop-b.invariant m.0 (omega (arith, m.1)) x a m.2
