-- How large the numbers of a nearness may be.
use Rattle.std.specs.Prelude.{ℕ, ◌-◌, ◌<◌, ◌^◌, ℤ, pos, negsuc, ◌≤ℤ◌, List}
use Rattle.geo_base.specs.Boxes.{coordinate}
use Rattle.geo_base.specs.declared.TheConstants.{MAX_DIMS}

-- the number lies within -10^12 to 10^12
abbrev pub IsInReach : ℤ → Type 0
IsInReach v = (negsuc (10 ^ 12 - 1) ≤ℤ v) × (v ≤ℤ pos (10 ^ 12))

-- so do the coordinates of p
abbrev pub IsWithinReach : List ℤ → Type 0
IsWithinReach p = (d : ℕ) → d < MAX_DIMS → IsInReach (coordinate p d)

-- q is at least p in the first n dimensions
abbrev pub IsAtLeast : ℕ → List ℤ → List ℤ → Type 0
IsAtLeast n p q = (d : ℕ) → d < n → coordinate p d ≤ℤ coordinate q d
