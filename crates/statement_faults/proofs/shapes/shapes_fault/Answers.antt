use Rattle.std.proofs.Common.{List, map, sym, subst}
use Rattle.rule_syntax.specs.declared.tree.PlacedName.{PlacedName}
use Rattle.problem_data.specs.Limits.{most_shapes}
use Rattle.problem_data.specs.Least.{IsLeast}
use Rattle.problem_data.specs.View.{shape_view}
use Rattle.problem_data.specs.Faults.{Among, NamesFault, ShapeFault, shape_name}
use Rattle.problem_data.proofs.Firsts.{joined}
use Rattle.problem_data.proofs.InLists.{least_view, map_twice}
use Rattle.statement_faults.proofs.shapes.shapes_fault.Goals as goal

pub returns : goal.returns
returns c =
    joined (NamesFault most_shapes (map shape_name (map shape_view c.args.shapes.now))) (Among (λ before. ShapeFault c.args.k) (map shape_view c.args.shapes.now)) _ _ _ c.earlier.ensures
    (subst (λ (ns : List PlacedName). IsLeast (NamesFault most_shapes ns) c.limited-names.result) (sym (map_twice shape_name shape_view c.args.shapes.now)) c.limited-names.ensures)
    (least_view shape_view (λ before. ShapeFault c.args.k) c.args.shapes.now _ c.each_fault-each.ensures)
