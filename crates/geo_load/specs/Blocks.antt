-- Which objects come in along a dimension, and which one is in the way of which.
use Rattle.std.specs.Prelude.{◌≡◌, ◌≢◌, ◌<◌, ◌≤ℤ◌, ◌+ℤ◌, not, ℕ, ℤ, Bool, List, length}
use Rattle.std.specs.List.{filter, range_with_len}
use Rattle.geo_base.specs.Boxes.{coordinate}
use Rattle.problem_data.specs.Cells.{BoxHas, IsCellOf}
use Rattle.problem_data.specs.Places.{is_absent_at}
use Rattle.problem_data.specs.Problem.{BoxData, ProblemData}
use Rattle.problem_data.specs.Tuple.{Tuple, object_of, spot}

-- the cell lies at or beyond the other one in the dimension d, and agrees with it in every other of
-- k dimensions
pub record IsBehind (k d : ℕ) (cell other : List ℤ) : Type 0 where
  pub beyond : coordinate other d ≤ℤ coordinate cell d
  pub agrees : (e : ℕ) → e < k → e ≢ d → coordinate cell e ≡ coordinate other e

-- some cell of i lies behind some cell of j: j, which comes in along the dimension d from its high
-- side, cannot pass where i stands
abbrev pub Blocks : ProblemData → Tuple → ℕ → ℕ → ℕ → Type 0
Blocks p t d i j = (a b : List ℤ) × IsCellOf p t i a × IsCellOf p t j b × IsBehind p.dims d a b

-- the same of the cells of two boxes, each seen from an origin
abbrev pub BoxBlocks : ℕ → ℕ → BoxData → List ℤ → BoxData → List ℤ → Type 0
BoxBlocks k d x o y u = (a b : List ℤ) × BoxHas k x o a × BoxHas k y u b × IsBehind k d a b

-- the same of the cells of a box and of the object j
abbrev pub BoxBlocksOne : ProblemData → Tuple → ℕ → BoxData → List ℤ → ℕ → Type 0
BoxBlocksOne p t d x o j =
    (a b : List ℤ) × BoxHas p.dims x o a × IsCellOf p t j b × IsBehind p.dims d a b

-- the first number of a box in the dimension d, seen from an origin, and the first one past it
abbrev pub low_in : BoxData → List ℤ → ℕ → ℤ
low_in x o d = coordinate o d +ℤ coordinate x.offsets d

abbrev pub end_in : BoxData → List ℤ → ℕ → ℤ
end_in x o d = low_in x o d +ℤ coordinate x.sizes d

-- the object is not absent
abbrev pub is_present : ProblemData → Tuple → ℕ → Bool
is_present p t o = not (is_absent_at (object_of p o) (spot t o).place)

-- the objects that are not absent, in file order
abbrev pub present : ProblemData → Tuple → List ℕ
present p t = filter (is_present p t) (range_with_len 0 (length p.objects))
