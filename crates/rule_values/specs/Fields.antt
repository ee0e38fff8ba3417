-- What the fields of an object are: a coordinate, the number of its shape, or a number that is the same on all tuples.
use Rattle.std.specs.Prelude.{ℕ, ◌+◌, if◌then◌else◌, List, ℤ, pos, slice_index_or, codes}
use Rattle.std.specs.Option.{option_map_or}
use Rattle.std.specs.Str.{bytes_eq}
use Rattle.problem_data.specs.Problem.{ProblemData}
use Rattle.problem_data.specs.Tuple.{Tuple, spot_of, object_of, shape_number_in}
use Rattle.problem_data.specs.Value.{coordinate_of, attribute_in}
use Rattle.rule_values.specs.declared.fields.ObjectField.{ObjectField}
use Rattle.rule_values.specs.declared.fields.ObjectField.TheVariants.{Coordinate, Shape, Constant}

-- the attribute of this name of the object o
abbrev pub attribute_at : ProblemData → ℕ → List ℕ → ℤ
attribute_at p o n = attribute_in n (object_of p o).attributes

-- the field of this name of the object o
abbrev pub field_at : ProblemData → ℕ → List ℕ → ObjectField
field_at p o n =
    if bytes_eq n (codes "id") then Constant (pos (o + 1)) else if bytes_eq n (codes "sid") then Shape else
    option_map_or Coordinate (coordinate_of n) (Constant (attribute_at p o n))

-- the number that it is on a tuple
abbrev pub field_on : ProblemData → Tuple → ℕ → ObjectField → ℤ
field_on p t o (Coordinate d) = slice_index_or (spot_of t o).origin d (pos 0)
field_on p t o Shape = shape_number_in p t o
field_on p t o (Constant z) = z
