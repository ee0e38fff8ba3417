use Rattle.std.proofs.Common.{List, map, sym, subst}
use Rattle.rule_syntax.specs.declared.tree.PlacedName.{PlacedName}
use Rattle.problem_data.specs.Limits.{most_objects}
use Rattle.problem_data.specs.Least.{IsLeast}
use Rattle.problem_data.specs.View.{object_view}
use Rattle.problem_data.specs.Faults.{Among, NamesFault, ObjectFault, object_name}
use Rattle.problem_data.proofs.Firsts.{joined}
use Rattle.problem_data.proofs.InLists.{least_view, map_twice}
use Rattle.statement_faults.proofs.objects.objects_fault.Goals as goal

pub returns : goal.returns
returns c =
    joined (NamesFault most_objects (map object_name (map object_view c.args.objects.now))) (Among (λ before. ObjectFault c.args.k c.args.made.now) (map object_view c.args.objects.now)) _ _ _ c.earlier.ensures
    (subst (λ (ns : List PlacedName). IsLeast (NamesFault most_objects ns) c.limited-names.result) (sym (map_twice object_name object_view c.args.objects.now)) c.limited-names.ensures)
    (least_view object_view (λ before. ObjectFault c.args.k c.args.made.now) c.args.objects.now _ c.in_ok-each.ensures)
