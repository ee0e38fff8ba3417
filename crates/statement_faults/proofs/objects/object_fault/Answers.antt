use Rattle.std.proofs.Common.{◌⊎◌, List, subst, ◌∙◌}
use Rattle.std.proofs.lemmas.List.{map-id}
use Rattle.rule_syntax.specs.declared.tree.PlacedName.{PlacedName}
use Rattle.std.specs.Prelude.{map}
use Rattle.problem_data.specs.declared.tree.RangeText.{RangeText}
use Rattle.problem_data.specs.declared.tree.PiecesText.{PiecesText}
use Rattle.problem_data.specs.declared.fault.Fault.{Fault}
use Rattle.problem_data.specs.View.{pieces_view, object_view}
use Rattle.problem_data.specs.declared.tree.AttributeText.{AttributeText}
use Rattle.problem_data.specs.Limits.{most_object_shapes}
use Rattle.problem_data.specs.Least.{IsLeast}
use Rattle.problem_data.specs.Faults.{NamesFault, NotMade, OriginFault, AttributesFault, AbsentFault}
use Rattle.problem_data.proofs.Firsts.{joined}
use Rattle.statement_faults.proofs.objects.object_fault.Goals as goal

pub returns : goal.returns
returns c =
    let shapes : List PlacedName = c.args.object.now.shapes.items in
    let pieces : List (List RangeText) = map pieces_view c.args.object.now.pieces.items in
    let attributes : List AttributeText = c.args.object.now.attributes.items in
    let word : Fault → Type 0 = AbsentFault (object_view c.args.object.now) in
    joined (NamesFault most_object_shapes shapes) (λ f. NotMade c.args.made.now shapes f ⊎ OriginFault c.args.k pieces f ⊎ AttributesFault attributes f ⊎ word f) _ _ _ c.earlier.ensures
    (subst (λ (ns : List PlacedName). IsLeast (NamesFault most_object_shapes ns) c.in_ok-names.names) (map-id c.as_slice-shapes.result.now ∙ c.as_slice-shapes.ensures.value) c.in_ok-names.ensures)
    (joined (NotMade c.args.made.now shapes) (λ f. OriginFault c.args.k pieces f ⊎ AttributesFault attributes f ⊎ word f) _ _ _ c.earlier-others.ensures
    (subst (λ (ns : List PlacedName). IsLeast (NotMade c.args.made.now ns) c.not_made-unknown.result) c.as_slice-shapes.ensures.value c.not_made-unknown.ensures)
    (joined (OriginFault c.args.k pieces) (λ f. AttributesFault attributes f ⊎ word f) _ _ _ c.earlier-lists.ensures
    (subst (λ (ps : List PiecesText). IsLeast (OriginFault c.args.k (map pieces_view ps)) c.origin_fault-origin.result) c.as_slice.ensures.value c.origin_fault-origin.ensures)
    (joined (AttributesFault attributes) word _ _ _ c.earlier-last.ensures
    (subst (λ (xs : List AttributeText). IsLeast (AttributesFault xs) c.in_ok-attributes.attributes) c.as_slice-2.ensures.value c.in_ok-attributes.ensures) c.absent_fault.ensures)))
