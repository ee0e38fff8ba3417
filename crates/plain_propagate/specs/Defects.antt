-- Why a state is not supported.
use Rattle.std.specs.Prelude.{◌≡◌, ℕ, ◌<◌, ◌≤◌, true, List, length, ◌<ℤ◌, ◌≤ℤ◌}
use Rattle.geo_conditions.specs.declared.cond.Cond.{Cond}
use Rattle.geo_conditions.specs.Reach.{State, reach, has, low, high, dims}
use Rattle.plain_propagate.specs.Points.{HasSupport, HasEnd}
use Rattle.plain_propagate.specs.declared.defects.Defect.{Defect}
use Rattle.plain_propagate.specs.declared.defects.Defect.TheVariants.{Gone, NoPoint, NoLow, NoHigh}

-- the object has no point, at any place
pub record LacksAll (cs : List Cond) (S : State) (o : ℕ) : Type 0 where
  pub object : o < length S
  pub lacks : (s : ℕ) → HasSupport cs S o s → ⊥

-- the place is there, and has no point
pub record LacksPoint (cs : List Cond) (S : State) (o s : ℕ) : Type 0 where
  pub object : o < length S
  pub from_1 : 1 ≤ s
  pub to_16 : s ≤ 16
  pub there : has S o s ≡ true
  pub lacks : HasSupport cs S o s → ⊥

-- the interval has more than one number, and its low end has no point
pub record LacksLow (cs : List Cond) (S : State) (o d : ℕ) : Type 0 where
  pub object : o < length S
  pub dimension : d < dims S o
  pub wide : low S o d <ℤ high S o d
  pub lacks : HasEnd cs S o d (low S o d) → ⊥

-- the same of the high end
pub record LacksHigh (cs : List Cond) (S : State) (o d : ℕ) : Type 0 where
  pub object : o < length S
  pub dimension : d < dims S o
  pub wide : low S o d <ℤ high S o d
  pub lacks : HasEnd cs S o d (high S o d) → ⊥

-- what each defect says of the state
abbrev pub IsDefect : List Cond → State → Defect → Type 0
IsDefect cs S (Gone o) = LacksAll cs S o.0
IsDefect cs S (NoPoint o s) = LacksPoint cs S o.0 s
IsDefect cs S (NoLow o d) = LacksLow cs S o.0 d
IsDefect cs S (NoHigh o d) = LacksHigh cs S o.0 d

-- a place is there, and each has a point
abbrev pub PlacesFine : List Cond → State → ℕ → Type 0
PlacesFine cs S o = ((s : ℕ) × (has S o s ≡ true)) × ((s : ℕ) → has S o s ≡ true → HasSupport cs S o s)

-- the interval is not empty, and both ends have a point
abbrev pub EndsFine : List Cond → State → ℕ → ℕ → Type 0
EndsFine cs S o d = (low S o d ≤ℤ high S o d) × HasEnd cs S o d (low S o d) × HasEnd cs S o d (high S o d)

-- places and intervals of the object are fine
abbrev pub ObjectFine : List Cond → State → ℕ → Type 0
ObjectFine cs S o = PlacesFine cs S o × ((d : ℕ) → d < dims S o → EndsFine cs S o d) × (length (reach S o).region.lo ≡ length (reach S o).region.hi)
