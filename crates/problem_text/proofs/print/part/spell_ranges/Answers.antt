use Rattle.std.proofs.Common.{map, pos, refl}
use Rattle.std.specs.Prelude.{flat_map}
use Rattle.problem_data.specs.ProblemView.{range_data}
use Rattle.problem_text.specs.Canonical.{range_spelling}
use Rattle.problem_text.proofs.PrintingLists.{joined_at}
use Rattle.problem_text.proofs.print.part.spell_ranges.Goals as goal

pub each-preserved : goal.each-preserved
each-preserved c =
    joined_at (λ xs. flat_map range_spelling (map range_data xs)) (λ r. range_spelling (range_data r)) (λ x xs. refl) c.args.ranges.now c.each.range-index (record { low = pos 0; high = pos 0 }) _ _ _ _ c.each-test.true refl (c.in_ok-spell_range.ensures {u = tt}) c.each.invariant
