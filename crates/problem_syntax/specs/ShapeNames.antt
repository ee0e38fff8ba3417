-- What was read of the shapes of an object.
use Rattle.problem_data.specs.Grammar.{ShapeList}
use Rattle.problem_syntax.specs.declared.shapes.ShapeNames.{ShapeNames}

abbrev pub shape_list : ShapeNames → ShapeList
shape_list s = (s.names.items, s.absent)
