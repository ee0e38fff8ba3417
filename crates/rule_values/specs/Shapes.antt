-- The shape of an object by its place, from 1, in the object's own list. At the place that a tuple gives the object it is the shape
-- that the object has there.
use Rattle.std.specs.Prelude.{ℕ, ◌+◌, ◌-◌, ◌==◌, if◌then◌else◌, List, [], ℤ, pos, slice_get}
use Rattle.std.specs.Prelude.{Option, None}
use Rattle.std.specs.Option.{option_map_or}
use Rattle.problem_data.specs.Problem.{BoxData, ProblemData}
use Rattle.problem_data.specs.Tuple.{object_of, boxes_of_shape}

-- by its position among all shapes; place 0 and places past the list are none
abbrev pub shape_at : ProblemData → ℕ → ℕ → Option ℕ
shape_at p o place = if place == 0 then None else slice_get (object_of p o).shapes (place - 1)

abbrev pub boxes_at : ProblemData → ℕ → ℕ → List BoxData
boxes_at p o place = option_map_or (boxes_of_shape p) (shape_at p o place) []

-- its number, from 1 in file order; 0 where it is none
abbrev pub shape_number_at : ProblemData → ℕ → ℕ → ℤ
shape_number_at p o place = option_map_or (λ s. pos (s + 1)) (shape_at p o place) (pos 0)
