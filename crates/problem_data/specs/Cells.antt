-- The cells of placed objects, and what `apart` and `within` say of them.
use Rattle.std.specs.Prelude.{true, ◌≡◌, ◌≢◌, ◌<◌, ◌≤◌, ◌+ℤ◌, ◌≤ℤ◌, ◌<ℤ◌, ℕ, ℤ, List, [], length, slice_index_or}
use Rattle.geo_base.specs.Boxes.{coordinate}
use Rattle.problem_data.specs.Problem.{BoxData, RangeData, ObjectData, ProblemData}
pub use Rattle.problem_data.specs.Pieces.{range_at}
use Rattle.problem_data.specs.Pieces.{IsInPieces, pieces_at, hulls}
use Rattle.problem_data.specs.Places.{place_count, is_absent_at, AreFirst}
use Rattle.problem_data.specs.Tuple.{Spot, Tuple, spot, object_of, boxes_in}

-- the box at a place of a list; none, past its end
abbrev pub box_at : List BoxData → ℕ → BoxData
box_at boxes n = slice_index_or boxes n (record { offsets = []; sizes = [] })

-- in the dimension d the box, seen from the origin, has the number c
pub record IsIn (b : BoxData) (origin : List ℤ) (d : ℕ) (c : ℤ) : Type 0 where
  pub from : (coordinate origin d +ℤ coordinate b.offsets d) ≤ℤ c
  pub to : c <ℤ ((coordinate origin d +ℤ coordinate b.offsets d) +ℤ coordinate b.sizes d)

-- the box, seen from the origin, has the cell in k dimensions
abbrev pub BoxHas : ℕ → BoxData → List ℤ → List ℤ → Type 0
BoxHas k b origin c = (d : ℕ) → d < k → IsIn b origin d (coordinate c d)

-- the cell belongs to the object o where the tuple puts it
abbrev pub IsCellOf : ProblemData → Tuple → ℕ → List ℤ → Type 0
IsCellOf p t o c = (n : ℕ) × (n < length (boxes_in p t o)) × BoxHas p.dims (box_at (boxes_in p t o) n) (spot t o).origin c

-- no cell belongs to both objects
abbrev pub NoCommonCell : ProblemData → Tuple → ℕ → ℕ → Type 0
NoCommonCell p t o u = (c : List ℤ) → IsCellOf p t o c → IsCellOf p t u c → ⊥

-- no cell belongs to two objects
abbrev pub IsApart : ProblemData → Tuple → Type 0
IsApart p t = (o u : ℕ) → o < length p.objects → u < length p.objects → o ≢ u → NoCommonCell p t o u

-- each number of the point lies in the range of its dimension
abbrev pub IsInRanges : List RangeData → List ℤ → Type 0
IsInRanges ranges c = (d : ℕ) → d < length ranges → ((range_at ranges d).low ≤ℤ coordinate c d) × (coordinate c d ≤ℤ (range_at ranges d).high)

-- each cell of the object lies in the ranges
abbrev pub LiesWithin : ProblemData → List RangeData → Tuple → ℕ → Type 0
LiesWithin p ranges t o = (c : List ℤ) → IsCellOf p t o c → IsInRanges ranges c

-- each cell of each object lies in the ranges
abbrev pub IsWithin : ProblemData → List RangeData → Tuple → Type 0
IsWithin p ranges t = (o : ℕ) → o < length p.objects → LiesWithin p ranges t o

-- the spot has a place of the object's list, and an origin of as many coordinates as there are dimensions
pub record HasForm (p : ProblemData) (o : ObjectData) (s : Spot) : Type 0 where
  pub first : 1 ≤ s.place
  pub last : s.place ≤ place_count o
  pub dimensions : length s.origin ≡ p.dims

-- the tuple gives each object a place of its list and an origin, in its ranges or outside
pub record IsShaped (p : ProblemData) (t : Tuple) : Type 0 where
  pub objects : length t ≡ length p.objects
  pub each : (o : ℕ) → o < length p.objects → HasForm p (object_of p o) (spot t o)

-- the spot has a place of the object's list, and each number of its origin lies in a piece of the
-- object's range; at the place `absent` it is the first value of its dimension
pub record IsSpotOf (p : ProblemData) (o : ObjectData) (s : Spot) : Type 0 where
  pub form : HasForm p o s
  pub pieces : (d : ℕ) → d < p.dims → IsInPieces (pieces_at o d) (coordinate s.origin d)
  pub first : is_absent_at o s.place ≡ true → AreFirst p o s.origin

-- the tuple gives each object a place of its list and an origin in its ranges
pub record IsTuple (p : ProblemData) (t : Tuple) : Type 0 where
  pub objects : length t ≡ length p.objects
  pub each : (o : ℕ) → o < length p.objects → IsSpotOf p (object_of p o) (spot t o)

-- the spot has a place of the object's list, and its origin lies in the hulls of the object's
-- ranges
pub record IsWideSpotOf (p : ProblemData) (o : ObjectData) (s : Spot) : Type 0 where
  pub form : HasForm p o s
  pub hulls : IsInRanges (hulls o) s.origin

-- the tuple gives each object a place of its list and an origin in the hulls of its ranges
pub record IsWideTuple (p : ProblemData) (t : Tuple) : Type 0 where
  pub objects : length t ≡ length p.objects
  pub each : (o : ℕ) → o < length p.objects → IsWideSpotOf p (object_of p o) (spot t o)
