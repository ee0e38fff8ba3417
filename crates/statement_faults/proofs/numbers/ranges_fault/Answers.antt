use Rattle.std.proofs.Common.{◌≡◌, length}
use Rattle.problem_data.specs.Faults.{Among, Miscounted, range_place, RangeFault}
use Rattle.problem_data.proofs.Firsts.{joined, placed}
use Rattle.statement_faults.proofs.numbers.ranges_fault.Goals as goal

pub returns : goal.returns
returns c = joined (Miscounted range_place c.args.k c.args.ranges.now) (Among (λ before. RangeFault) c.args.ranges.now) _ _ _ c.earlier.ensures (placed (length c.args.ranges.now ≡ c.args.k → ⊥) _ _ _ _ c.first_range.ensures c.miscount-count.ensures) c.each_fault-each.ensures
