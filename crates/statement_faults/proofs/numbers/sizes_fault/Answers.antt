use Rattle.std.proofs.Common.{◌≡◌, length}
use Rattle.problem_data.specs.Faults.{Among, Miscounted, int_place, SizeFault}
use Rattle.problem_data.proofs.Firsts.{joined, placed}
use Rattle.statement_faults.proofs.numbers.sizes_fault.Goals as goal

pub returns : goal.returns
returns c = joined (Miscounted int_place c.args.k c.args.numbers.now) (Among (λ before. SizeFault) c.args.numbers.now) _ _ _ c.earlier.ensures (placed (length c.args.numbers.now ≡ c.args.k → ⊥) _ _ _ _ c.first_int.ensures c.miscount-count.ensures) c.each_fault-each.ensures
