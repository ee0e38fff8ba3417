use Rattle.std.proofs.Common.{◌≤◌, ◌⊎◌, List, length, refl, subst}
use Rattle.problem_data.specs.declared.tree.Int.{Int}
use Rattle.problem_data.specs.Limits.{most_boxes}
use Rattle.problem_data.specs.Least.{IsLeast}
use Rattle.problem_data.specs.View.{box_view}
use Rattle.problem_data.specs.Faults.{PastBox, OffsetsFault, SizesFault}
use Rattle.problem_data.proofs.Firsts.{joined, tested, at_least, at_least_back}
use Rattle.statement_faults.proofs.shapes.box_fault.Goals as goal

pub returns : goal.returns
returns c = λ before e.
    joined (PastBox before (box_view c.args.part.now)) (λ f. OffsetsFault c.args.k c.args.part.now.offsets.items f ⊎ SizesFault c.args.k c.args.part.now.sizes.items f) _ _ _ c.earlier.ensures
    (tested (most_boxes ≤ length before) _ _ _ _ _ c.fault_if-past.ensures refl (at_least most_boxes c.args.index _ e) (at_least_back most_boxes c.args.index _ e))
    (joined (OffsetsFault c.args.k c.args.part.now.offsets.items) (SizesFault c.args.k c.args.part.now.sizes.items) _ _ _ c.earlier-numbers.ensures
    (subst (λ (xs : List Int). IsLeast (OffsetsFault c.args.k xs) c.offsets_fault-offsets.result) c.deref.ensures.value c.offsets_fault-offsets.ensures)
    (subst (λ (xs : List Int). IsLeast (SizesFault c.args.k xs) c.sizes_fault-sizes.result) c.deref-2.ensures.value c.sizes_fault-sizes.ensures))
