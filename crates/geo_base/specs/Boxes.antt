-- Points and boxes. A point is the list of its coordinates, read by dimension.
use Rattle.std.specs.Prelude.{ℕ, ◌<◌, ℤ, pos, ◌≤ℤ◌, ◌<ℤ◌, List, slice_index_or}

-- the coordinate of a point in the dimension d
abbrev pub coordinate : List ℤ → ℕ → ℤ
coordinate p d = slice_index_or p d (pos 0)

-- the box of K dimensions from lo to hi, both included, has the point p
abbrev pub Has : ℕ → List ℤ → List ℤ → List ℤ → Type 0
Has K lo hi p = (d : ℕ) → d < K → (coordinate lo d ≤ℤ coordinate p d) × (coordinate p d ≤ℤ coordinate hi d)

-- no point lies in the box
abbrev pub HasNone : ℕ → List ℤ → List ℤ → Type 0
HasNone K lo hi = (p : List ℤ) → Has K lo hi p → ⊥

-- in each dimension the low end is at most the high end
abbrev pub IsUncrossed : ℕ → List ℤ → List ℤ → Type 0
IsUncrossed K lo hi = (d : ℕ) → d < K → coordinate lo d ≤ℤ coordinate hi d

-- in some dimension the high end lies below the low end
abbrev pub IsCrossed : ℕ → List ℤ → List ℤ → Type 0
IsCrossed K lo hi = (d : ℕ) × (d < K) × (coordinate hi d <ℤ coordinate lo d)
