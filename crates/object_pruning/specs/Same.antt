-- Two states of which one object alone may differ.
use Rattle.std.specs.Prelude.{◌≡◌, ◌≢◌, ℕ, length}
use Rattle.geo_conditions.specs.Reach.{State, reach}

-- the two states are the same but for the object o
pub record SameBut (o : ℕ) (S T : State) : Type 0 where
  pub objects : length S ≡ length T
  pub each : (u : ℕ) → u ≢ o → reach S u ≡ reach T u
