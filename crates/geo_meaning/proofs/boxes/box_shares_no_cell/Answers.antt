use Rattle.std.proofs.Common.{ℕ, ℤ, arith, below_more}
use Rattle.geo_base.specs.Tuple.{spot}
use Rattle.problem_data.specs.Cells.{IsIn}
use Rattle.box_ends.proofs.Corners.{common_cell}
use Rattle.geo_meaning.proofs.boxes.box_shares_no_cell.Goals as goal

pub returns-clause-no : goal.returns-clause-no
returns-clause-no c = common_cell c.args.dims c.args.a.now c.args.b.now (spot c.args.layout.now c.args.o.0).origin (spot c.args.layout.now c.args.u.0).origin (λ d h. c.loop-d.invariant d (omega arith))

pub loop-d-preserved : goal.loop-d-preserved
loop-d-preserved c =
    let P : ℕ → Type 0 = λ e. (x : ℤ) × (IsIn c.args.a.now (spot c.args.layout.now c.args.o.0).origin e x × IsIn c.args.b.now (spot c.args.layout.now c.args.u.0).origin e x) in
    below_more P c.loop-d.d c.loop-d.invariant c.if-parts_in.ensures.no
