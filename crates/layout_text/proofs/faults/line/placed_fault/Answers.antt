use Rattle.std.proofs.Common.{◌⊎◌, List, subst}
use Rattle.problem_data.specs.declared.tree.Int.{Int}
use Rattle.problem_data.specs.Problem.{RangeData}
use Rattle.problem_data.specs.Least.{IsLeast}
use Rattle.problem_data.proofs.Firsts.{joined}
use Rattle.layout_text.specs.Faults.{ShapeFault, CountFault, PiecesFault}
use Rattle.layout_text.proofs.faults.line.placed_fault.Goals as goal

pub returns : goal.returns
returns c =
    let xs : List Int = c.args.origin.now in
    joined (ShapeFault c.args.problem.now c.args.object.now c.args.shape.now) (λ f. CountFault c.args.problem.now.dims xs f ⊎ PiecesFault c.args.object.now.pieces xs f) _ _ _ c.earlier.ensures c.shape_fault-shape.ensures
    (joined (CountFault c.args.problem.now.dims xs) (PiecesFault c.args.object.now.pieces xs) _ _ _ c.earlier-last.ensures
    (subst (λ k. IsLeast (CountFault k xs) c.count_fault-count.result) c.dims.ensures c.count_fault-count.ensures)
    (subst (λ (rs : List (List RangeData)). IsLeast (PiecesFault rs xs) c.pieces_fault-pieces.result) c.pieces.ensures c.pieces_fault-pieces.ensures))
