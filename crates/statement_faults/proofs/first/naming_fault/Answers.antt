use Rattle.std.proofs.Common.{◌≡◌, ℕ, List, map, subst, refl, ◌∙◌}
use Rattle.problem_data.specs.declared.tree.ShapeText.{ShapeText}
use Rattle.problem_data.specs.View.{shape_view}
use Rattle.problem_data.specs.Parts.{Parts, parts_view}
use Rattle.problem_data.specs.Least.{IsLeast}
use Rattle.problem_data.specs.Seen.{met}
use Rattle.problem_data.specs.Faults.{ShapesFault, shape_names}
use Rattle.problem_data.proofs.Firsts.{joined}
use Rattle.statement_faults.specs.Groups.{ObjectOrOrderFault}
use Rattle.statement_faults.proofs.AllFaults.{shapes_met, group_of_met}
use Rattle.statement_faults.proofs.first.naming_fault.Goals as goal

pub shapes_fault-shapes-requires : goal.shapes_fault-shapes-requires
shapes_fault-shapes-requires c = c.in_ok-names.ensures.fault

pub returns : goal.returns
returns c =
    let p : Parts = parts_view c.args.said.now in
    let names : c.deref.result.now ≡ met (shape_names p.shapes) =
    c.deref.ensures ∙ subst (λ (ss : List ShapeText). c.in_ok-names.names.value ≡ met (shape_names (map shape_view ss))) c.as_slice-list.ensures.value
    (shapes_met c.as_slice-list.result.now _ _ c.in_ok-names.ensures.names refl) in
    joined (ShapesFault c.args.k p.shapes) (ObjectOrOrderFault c.args.k (shape_names p.shapes) p) _ _ _ c.earlier.ensures
    (subst (λ (ss : List ShapeText). IsLeast (ShapesFault c.args.k (map shape_view ss)) c.shapes_fault-shapes.result) c.as_slice-list.ensures.value c.shapes_fault-shapes.ensures)
    (group_of_met c.args.k p _ (subst (λ (ns : List (List ℕ)). IsLeast (ObjectOrOrderFault c.args.k ns p) c.in_ok-others.others) names c.in_ok-others.ensures))
