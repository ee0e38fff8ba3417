-- How large the numbers of a placed box may be.
use Rattle.std.specs.Prelude.{ℕ, ◌-◌, ◌<◌, ◌^◌, ℤ, pos, negsuc, ◌≤ℤ◌, List}
use Rattle.geo_base.specs.Boxes.{coordinate}

-- the coordinates of p lie within -10^14 to 10^14
abbrev pub IsWithinLimit : ℕ → List ℤ → Type 0
IsWithinLimit K p = (d : ℕ) → d < K → (negsuc (10 ^ 14 - 1) ≤ℤ coordinate p d) × (coordinate p d ≤ℤ pos (10 ^ 14))
