use Rattle.std.proofs.Common.{◌≤◌, ◌⊎◌, length, refl}
use Rattle.problem_data.specs.Limits.{most_pieces}
use Rattle.problem_data.specs.Faults.{PastPiece, RangeFault, TooNear}
use Rattle.problem_data.proofs.Firsts.{joined, tested, at_least, at_least_back}
use Rattle.statement_faults.proofs.pieces.piece_fault.Goals as goal

pub returns : goal.returns
returns c =
    joined (PastPiece c.args.before.now c.args.piece.now) (λ f. RangeFault c.args.piece.now f ⊎ TooNear c.args.before.now c.args.piece.now f) _ _ _ c.earlier.ensures
    (tested (most_pieces ≤ length c.args.before.now) _ _ _ _ _ c.fault_if-past.ensures refl (at_least most_pieces (length c.args.before.now) _ refl) (at_least_back most_pieces (length c.args.before.now) _ refl))
    (joined (RangeFault c.args.piece.now) (TooNear c.args.before.now c.args.piece.now) _ _ _ c.earlier-others.ensures c.range_fault-range.ensures c.near_fault-near.ensures)
