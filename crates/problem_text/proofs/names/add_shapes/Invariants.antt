use Rattle.std.proofs.Common.{◌≡◌, take, map}
use Rattle.problem_text.specs.NameTable.{shape_name}
use Rattle.problem_text.proofs.names.add_shapes.Given as goal

abbrev pub invariant-shapes : goal.invariant-shapes
invariant-shapes l = l.names ≡ record l.fn.names { shapes = take l.shape-index (map shape_name l.shapes) }
