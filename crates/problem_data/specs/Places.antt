-- Places of an object: each of its shapes has one, and behind them stands `absent`, where the
-- object may be left out.
use Rattle.std.specs.Prelude.{◌≡◌, ◌<◌, ℕ, ◌+◌, ◌==◌, ◌&&◌, Bool, if◌then◌else◌, ℤ, List, length, slice_index_or}
use Rattle.geo_base.specs.Boxes.{coordinate}
use Rattle.problem_data.specs.declared.tree.Side.{Side}
use Rattle.problem_data.specs.declared.tree.Side.TheVariants.{Low}
use Rattle.problem_data.specs.Problem.{ObjectData, ProblemData, runs_down}
use Rattle.problem_data.specs.Pieces.{hull, pieces_at}

-- how many places an object has
abbrev pub place_count : ObjectData → ℕ
place_count o = length o.shapes + (if o.may_be_absent then 1 else 0)

-- the place behind those of the shapes
abbrev pub absent_place : ObjectData → ℕ
absent_place o = length o.shapes + 1

-- at this place the object is absent
abbrev pub is_absent_at : ObjectData → ℕ → Bool
is_absent_at o place = o.may_be_absent && (place == absent_place o)

-- the end from which the values of a dimension are tried
abbrev pub side_at : ProblemData → ℕ → Side
side_at p d = slice_index_or p.sides d Low

-- the first value of a coordinate: the least one, or the greatest, where values are tried from the
-- high end down
abbrev pub first_value : ProblemData → ObjectData → ℕ → ℤ
first_value p o d = if runs_down (side_at p d) then (hull (pieces_at o d)).high else (hull (pieces_at o d)).low

-- each coordinate has its first value
abbrev pub AreFirst : ProblemData → ObjectData → List ℤ → Type 0
AreFirst p o origin = (d : ℕ) → d < p.dims → coordinate origin d ≡ first_value p o d
