use Rattle.std.proofs.Common.{List, map, ◌∙◌, ap}
use Rattle.std.specs.List.{list_any, position}
use Rattle.std.specs.Str.{bytes_eq}
use Rattle.problem_data.specs.Problem.{ShapeData, ObjectData, MacroData}
use Rattle.problem_data.specs.Seen.{met}
use Rattle.problem_data.proofs.NamesMet.{shapes_met, objects_met, macros_met}
use Rattle.rule_names.specs.Sight.{lists_attribute}
use Rattle.rule_names.proofs.Tables.{position-map}
use Rattle.rule_names.proofs.table.tables_of.Goals as goal

pub returns : goal.returns
returns c =
    let p = c.args.problem.now in
    record {
      objects = λ n. ap (position (bytes_eq n)) (c.in_ok-object_names.ensures ∙ ap (λ (xs : List ObjectData). met (map (λ o. o.name) xs)) c.objects.ensures ∙ objects_met p c.is_said.ensures.said) ∙ position-map (bytes_eq n) (λ (o : ObjectData). o.name) p.objects;
      shapes = λ n. ap (position (bytes_eq n)) (c.in_ok-shape_names.ensures ∙ ap (λ (xs : List ShapeData). met (map (λ s. s.name) xs)) c.shapes.ensures ∙ shapes_met p c.is_said.ensures.said) ∙ position-map (bytes_eq n) (λ (s : ShapeData). s.name) p.shapes;
      macros = λ n. ap (position (bytes_eq n)) (c.in_ok-macro_names.ensures ∙ ap (λ (xs : List MacroData). met (map (λ m. m.name) xs)) c.macros.ensures ∙ macros_met p c.is_said.ensures.said) ∙ position-map (bytes_eq n) (λ (m : MacroData). m.name) p.macros;
      attributes = λ n. c.in_ok-attributes.ensures n ∙ ap (list_any (λ o. lists_attribute o n)) c.objects-2.ensures;
    }
