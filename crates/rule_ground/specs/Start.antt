-- The state in which a search begins: all places and the hulls of all ranges.
use Rattle.std.specs.Prelude.{◌≤ℤ◌, ℕ, pos, negsuc, map}
use Rattle.problem_data.specs.Problem.{RangeData, ObjectData, ProblemData}
use Rattle.problem_data.specs.Pieces.{hulls}
use Rattle.problem_data.specs.Places.{place_count}
use Rattle.geo_conditions.specs.Reach.{State, Reach, Region, first_places, low, high}

-- the points within the hulls of an object's ranges
abbrev pub whole_region : ObjectData → Region
whole_region o = record { lo = map (λ (r : RangeData). r.low) (hulls o); hi = map (λ (r : RangeData). r.high) (hulls o) }

-- all that is open to an object
abbrev pub whole_reach : ObjectData → Reach
whole_reach o = record { places = first_places (place_count o); region = whole_region o }

-- for each object all its places and all its hulls
abbrev pub first_state : ProblemData → State
first_state p = map whole_reach p.objects

-- each end of each interval lies in -1,000,000 to 1,000,000
abbrev pub HasSmallEnds : State → Type 0
HasSmallEnds S = (o d : ℕ) →
    (negsuc 999999 ≤ℤ low S o d) × (low S o d ≤ℤ pos 1000000) × (negsuc 999999 ≤ℤ high S o d) × (high S o d ≤ℤ pos 1000000)
