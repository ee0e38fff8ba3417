use Rattle.std.proofs.Common.{◌≡◌, ◌≤◌, length, refl, subst, List}
use Rattle.problem_data.specs.declared.tree.SideText.{SideText}
use Rattle.problem_data.specs.View.{sides_view}
use Rattle.problem_data.specs.Least.{IsLeast}
use Rattle.problem_data.specs.Faults.{SecondSides, Miscounted, side_place}
use Rattle.problem_data.proofs.Firsts.{joined, placed, tested, at_least, at_least_back}
use Rattle.statement_faults.proofs.order.some_sides_fault.Goals as goal

pub returns : goal.returns
returns c = λ before e.
    joined (SecondSides before (sides_view c.args.sides.now)) (Miscounted side_place c.args.k c.args.sides.now.sides.items) _ _ _ c.earlier.ensures
    (tested (1 ≤ length before) _ _ _ _ _ c.fault_if-second.ensures refl (at_least 1 c.args.index _ e) (at_least_back 1 c.args.index _ e))
    (subst (λ (xs : List SideText). IsLeast (Miscounted side_place c.args.k xs) c.miscount-count.result) c.as_slice-list.ensures.value
    (placed (length c.as_slice-list.result.now ≡ c.args.k → ⊥) _ _ _ _ c.first_side.ensures c.miscount-count.ensures))
