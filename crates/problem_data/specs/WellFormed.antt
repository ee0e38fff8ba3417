-- What holds of the data of every problem that a text says.
use Rattle.std.specs.Prelude.{false, ◌≡◌, ◌≢◌, ◌<◌, ◌≤◌, ◌≤ℤ◌, ◌<ℤ◌, ℕ, List, length, pos, negsuc, ◌⊎◌, All, AllPairs, Contains}
use Rattle.problem_data.specs.Limits.{most_dims, most_first_dims, most_pieces}
use Rattle.problem_data.specs.Problem.{BoxData, RangeData, ObjectData, DemandData, apart, within, plain, ProblemData}
use Rattle.problem_data.specs.Pieces.{AreApart}
use Rattle.problem_data.specs.Places.{place_count}

-- an offset and a size from 1 on for each dimension
pub record IsBox (k : ℕ) (b : BoxData) : Type 0 where
  pub offsets : length b.offsets ≡ k
  pub sizes : length b.sizes ≡ k
  pub solid : All (λ n. pos 0 <ℤ n) b.sizes

-- the range is not empty, and its ends are small
pub record IsRange (r : RangeData) : Type 0 where
  pub low : negsuc 999999 ≤ℤ r.low
  pub filled : r.low ≤ℤ r.high
  pub high : r.high ≤ℤ pos 1000000

-- 1 to 8 ranges in ascending order, with at least one number between neighbours
pub record ArePieces (pieces : List RangeData) : Type 0 where
  pub some : 0 < length pieces
  pub few : length pieces ≤ most_pieces
  pub ranges : All IsRange pieces
  pub apart : AreApart pieces

-- a shape or more, 1 to 16 places, different shapes that are there, and the pieces of a range for
-- each dimension
pub record IsObject (p : ProblemData) (o : ObjectData) : Type 0 where
  pub some : 0 < length o.shapes
  pub few : place_count o ≤ 16
  pub shapes : All (λ n. n < length p.shapes) o.shapes
  pub once : AllPairs (λ m n. m ≢ n) o.shapes
  pub dimensions : length o.pieces ≡ p.dims
  pub pieces : All ArePieces o.pieces

abbrev pub IsDemand : ℕ → DemandData → Type 0
IsDemand k apart = Unit {0}
IsDemand k (within ranges) = (length ranges ≡ k) × All IsRange ranges
IsDemand k (plain f) = Unit {0}

-- the object cannot be left out
abbrev pub IsPresent : ObjectData → Type 0
IsPresent o = o.may_be_absent ≡ false

-- each range of the object is one piece, and the object cannot be left out
pub record IsSimple (o : ObjectData) : Type 0 where
  pub pieces : All (λ pieces. length pieces ≡ 1) o.pieces
  pub present : IsPresent o

pub record IsWellFormed (p : ProblemData) : Type 0 where
  pub version : (p.version ≡ 1) ⊎ (p.version ≡ 2)
  pub simple : p.version ≡ 1 → (p.dims ≤ most_first_dims) × All IsSimple p.objects
  pub some : 0 < p.dims
  pub dimensions : p.dims ≤ most_dims
  pub boxes : All (λ s. All (IsBox p.dims) s.boxes) p.shapes
  pub few : length p.objects ≤ 200
  pub objects : All (IsObject p) p.objects
  pub demands : All (λ r. IsDemand p.dims r.demand) p.rules
  pub order : All (λ o. o < length p.objects) p.order
  pub each : (o : ℕ) → o < length p.objects → Contains p.order o
  pub once : AllPairs (λ o u. o ≢ u) p.order
  pub sides : length p.sides ≡ p.dims
