-- Which places a condition asks for before it can be in an object's way.
use Rattle.std.specs.Prelude.{◌≡◌, ◌≢◌, ◌⊎◌, ◌<◌, ℕ, true, false, length, IfSome}
use Rattle.geo_conditions.specs.declared.cond.Cond.{Cond}
use Rattle.geo_conditions.specs.Reach.{State, reach, is_only}
use Rattle.geo_conditions.specs.Conditions.{FitsIn}
use Rattle.indexical.specs.declared.facing.Facing.{Facing}
use Rattle.indexical.specs.Free.{LeavesFree, Spares, SparesAnywhere}
use Rattle.indexical.specs.Names.{names}

-- at another place than s the object o is spared
abbrev pub SparesElsewhere : Cond → ℕ → ℕ → Type 0
SparesElsewhere c o s = (S : State) (t : ℕ) → FitsIn c S → o < length S → t ≢ s → Spares c S o t

-- where the object o has not the place s alone, it leaves the others free
abbrev pub LeavesFreeUnless : Cond → ℕ → ℕ → Type 0
LeavesFreeUnless c o s = (S : State) → FitsIn c S → o < length S → is_only (reach S o).places s ≡ false → LeavesFree c S o

-- where the object u has not the place s alone, the object o is spared
abbrev pub SparesUnless : Cond → ℕ → ℕ → ℕ → Type 0
SparesUnless c o u s = (S : State) → FitsIn c S → o < length S → is_only (reach S u).places s ≡ false → SparesAnywhere c S o

-- u is another object than o, and the condition names no third one. It asks for the place s of u, if that is not 0
pub record IsBeside (c : Cond) (o u s : ℕ) : Type 0 where
  pub apart : u ≢ o
  pub named : (v : ℕ) → names v c ≡ true → (v ≡ o) ⊎ (v ≡ u)
  pub exists : (S : State) → FitsIn c S → u < length S
  pub place : s ≢ 0 → SparesUnless c o u s

-- the condition asks for these places before it can be in the way of the object o
pub record Faces (c : Cond) (o : ℕ) (f : Facing) : Type 0 where
  pub place : f.place ≢ 0 → SparesElsewhere c o f.place
  pub alone : f.place ≢ 0 → LeavesFreeUnless c o f.place
  pub other : IfSome f.other (λ u. IsBeside c o u.0 f.other_place)
