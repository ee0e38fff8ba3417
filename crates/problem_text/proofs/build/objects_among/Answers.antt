use Rattle.std.proofs.Common.{◌≡◌, ℕ, List, map, sym, ap, ◌∙◌, subst}
use Rattle.std.specs.Prelude.{IfOk}
use Rattle.rule_syntax.specs.declared.tree.PlacedName.{PlacedName}
use Rattle.problem_data.specs.View.{shape_view, object_view}
use Rattle.problem_data.specs.Seen.{met}
use Rattle.problem_data.specs.Faults.{text_of, shape_name, shape_names}
use Rattle.problem_data.specs.Meaning.{object_of}
use Rattle.problem_data.proofs.InLists.{map_twice}
use Rattle.problem_text.proofs.build.objects_among.Goals as goal

pub returns : goal.returns
returns c =
    let e : c.deref.result.now ≡ shape_names (map shape_view c.args.shapes.now) =
    c.deref.ensures ∙ c.in_ok-names.ensures.names ∙ ap (λ (ns : List PlacedName). met (map text_of ns)) (sym (map_twice shape_name shape_view c.args.shapes.now)) ∙ c.requires.differ in
    subst (λ (ns : List (List ℕ)). IfOk c.build_objects.result (λ v. v.items ≡ map (object_of ns) (map object_view c.args.objects.items))) e c.build_objects.ensures
