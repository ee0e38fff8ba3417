use Rattle.std.proofs.Common.{◌⊎◌}
use Rattle.problem_data.specs.Faults.{OffsetFault, UpsideDown}
use Rattle.problem_data.proofs.Firsts.{joined}
use Rattle.statement_faults.proofs.numbers.range_fault.Goals as goal

pub returns : goal.returns
returns c =
    joined (OffsetFault c.args.range.now.low) (λ f. OffsetFault c.args.range.now.high f ⊎ UpsideDown c.args.range.now f) _ _ _ c.earlier.ensures c.offset_fault-low.ensures
    (joined (OffsetFault c.args.range.now.high) (UpsideDown c.args.range.now) _ _ _ c.earlier-others.ensures c.offset_fault-high.ensures c.upside_down-turned.ensures)
