-- How near two objects are where a condition is refuted.
use Rattle.std.specs.Prelude.{ℕ, ◌<◌, List, ℤ, ◌+ℤ◌, ◌<ℤ◌}
use Rattle.geo_base.specs.Boxes.{coordinate}
use Rattle.geo_conditions.specs.declared.cond.Cond.{Cond}
use Rattle.geo_conditions.specs.Reach.{State, low, high}
use Rattle.geo_conditions.specs.Conditions.{IsRefuted}

-- where the condition is refuted, in each of the first n dimensions u ends less than `ahead` behind the start of o, and o less
-- than `behind` behind that of u
abbrev pub IsRefutedNear : ℕ → Cond → ℕ → ℕ → List ℤ → List ℤ → Type 0
IsRefutedNear n c o u ahead behind = (S : State) → IsRefuted c S → (d : ℕ) → d < n → (high S u d <ℤ (low S o d +ℤ coordinate ahead d)) × (high S o d <ℤ (low S u d +ℤ coordinate behind d))
