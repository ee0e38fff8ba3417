-- The places of an object, from 1: those of its shapes, and then that at which it is absent.
use Rattle.std.specs.Prelude.{ℕ, ◌≤◌, ◌<◌, nat_lt, Bool, if◌then◌else◌, ℤ, List, [], ◌∷◌, length, All}
use Rattle.std.specs.List.{range_with_len}
use Rattle.geo_conditions.specs.declared.form.Term.{Term}
use Rattle.problem_data.specs.Limits.{IsSmall, IsSize, most_boxes}
use Rattle.problem_data.specs.Problem.{BoxData, ShapeData, ProblemData}
use Rattle.problem_data.specs.Places.{place_count}
use Rattle.problem_data.specs.Tuple.{object_of}
use Rattle.linear_conditions.specs.CondTree.{CondTree, shape_is_not}

-- the places of the object o
abbrev pub places : ProblemData → ℕ → List ℕ
places p o = range_with_len 1 (place_count (object_of p o))

-- those of its shapes
abbrev pub shape_places : ProblemData → ℕ → List ℕ
shape_places p o = range_with_len 1 (length (object_of p o).shapes)

-- s is a place of the object o
pub record IsPlace (p : ProblemData) (o s : ℕ) : Type 0 where
  pub object : o < length p.objects
  pub first : 1 ≤ s
  pub last : s ≤ place_count (object_of p o)

-- the object has several places to choose from
abbrev pub has_several : ProblemData → ℕ → Bool
has_several p o = nat_lt 1 (place_count (object_of p o))

-- the object o has another place than s; nothing, where it has no other one
abbrev pub other_shape : ProblemData → ℕ → ℕ → List CondTree
other_shape p o s = if has_several p o then shape_is_not o s ∷ [] else []

-- the coordinate d of the object o with a factor
abbrev pub term : ℕ → ℕ → ℤ → Term
term o d factor = record { object = record { 0 = o }; dimension = d; factor = factor }

-- offsets and sizes within the limits of a text
pub record IsSmallBox (b : BoxData) : Type 0 where
  pub offsets : All IsSmall b.offsets
  pub sizes : All IsSize b.sizes

-- each shape has at most 16 boxes, and they are small
pub record HasSmallShapes (p : ProblemData) : Type 0 where
  pub few : All (λ (s : ShapeData). length s.boxes ≤ most_boxes) p.shapes
  pub boxes : All (λ (s : ShapeData). All IsSmallBox s.boxes) p.shapes
