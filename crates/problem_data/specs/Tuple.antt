-- A tuple: it gives each object a shape and an origin.
use Rattle.std.specs.Prelude.{ℕ, ◌+◌, ◌-◌, ◌==◌, if◌then◌else◌, List, [], ℤ, pos, slice_get, slice_index_or}
use Rattle.std.specs.Prelude.{Option, None}
use Rattle.std.specs.Option.{option_map_or}
pub use Rattle.geo_base.specs.Tuple.{Spot, Tuple, spot}
use Rattle.problem_data.specs.Problem.{BoxData, ObjectData, no_object, ProblemData}

-- the spot of an object, in file order
abbrev pub spot_of : Tuple → ℕ → Spot
spot_of t o = spot t o

abbrev pub object_of : ProblemData → ℕ → ObjectData
object_of p o = slice_index_or p.objects o no_object

-- the shape that the tuple gives an object, by its position among all shapes; place 0 and places past the list are none
abbrev pub shape_of : ProblemData → Tuple → ℕ → Option ℕ
shape_of p t o = if (spot_of t o).place == 0 then None else slice_get (object_of p o).shapes ((spot_of t o).place - 1)

abbrev pub boxes_of_shape : ProblemData → ℕ → List BoxData
boxes_of_shape p s = (slice_index_or p.shapes s (record { name = []; boxes = [] })).boxes

-- the boxes that an object has in the tuple
abbrev pub boxes_in : ProblemData → Tuple → ℕ → List BoxData
boxes_in p t o = option_map_or (boxes_of_shape p) (shape_of p t o) []

-- the number of that shape, from 1 in file order; 0 where it is none
abbrev pub shape_number_in : ProblemData → Tuple → ℕ → ℤ
shape_number_in p t o = option_map_or (λ s. pos (s + 1)) (shape_of p t o) (pos 0)
