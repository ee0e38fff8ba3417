-- Ranges in pieces, and their hulls.
use Rattle.std.specs.Prelude.{ℕ, ◌<◌, ℤ, pos, ◌+ℤ◌, ◌≤ℤ◌, ◌<ℤ◌, List, [], ◌∷◌, length, map, slice_index_or}
use Rattle.problem_data.specs.Problem.{RangeData, ObjectData}

-- what stands past the end of a list of ranges
abbrev pub no_range : RangeData
no_range = record { low = pos 0; high = pos 0 }

abbrev pub range_at : List RangeData → ℕ → RangeData
range_at ranges n = slice_index_or ranges n no_range

-- the range has the number
abbrev pub IsInRange : RangeData → ℤ → Type 0
IsInRange r v = (r.low ≤ℤ v) × (v ≤ℤ r.high)

-- some piece has the number
abbrev pub IsInPieces : List RangeData → ℤ → Type 0
IsInPieces pieces v = (n : ℕ) × (n < length pieces) × IsInRange (range_at pieces n) v

-- between the end of each piece and the beginning of the next at least one number is left out
abbrev pub AreApart : List RangeData → Type 0
AreApart [] = Unit {0}
AreApart (r ∷ []) = Unit {0}
AreApart (r ∷ (s ∷ rest)) = ((r.high +ℤ pos 1) <ℤ s.low) × AreApart (s ∷ rest)

-- the last of a range and those behind it
abbrev pub last_of : RangeData → List RangeData → RangeData
last_of r [] = r
last_of r (s ∷ rest) = last_of s rest

-- from the first low end to the last high end
abbrev pub hull : List RangeData → RangeData
hull [] = no_range
hull (r ∷ rest) = record { low = r.low; high = (last_of r rest).high }

-- of an object the pieces of a dimension, and the hull of each one
abbrev pub pieces_at : ObjectData → ℕ → List RangeData
pieces_at o d = slice_index_or o.pieces d []

abbrev pub hulls : ObjectData → List RangeData
hulls o = map hull o.pieces
