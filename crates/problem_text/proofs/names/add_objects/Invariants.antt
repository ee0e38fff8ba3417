use Rattle.std.proofs.Common.{◌≡◌, take, map}
use Rattle.problem_text.specs.NameTable.{named_object}
use Rattle.problem_text.proofs.names.add_objects.Given as goal

abbrev pub invariant-objects : goal.invariant-objects
invariant-objects l = l.names ≡ record l.fn.names { objects = take l.object-index (map (named_object l.shapes) l.objects) }
