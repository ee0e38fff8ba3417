-- Supported states, and the greatest one inside a state.
use Rattle.std.specs.Prelude.{◌≡◌, ℕ, ◌<◌, Bool, true, List, length, ℤ}
use Rattle.std.specs.List.{All}
use Rattle.geo_conditions.specs.declared.cond.Cond.{Cond}
use Rattle.geo_base.specs.Boxes.{coordinate}
use Rattle.geo_base.specs.Ways.{Before}
use Rattle.geo_conditions.specs.Reach.{State, Region, reach, has, low, high, dims, just, InBox, with_at, Inside, HasNoEmpty}
use Rattle.geo_conditions.specs.Conditions.{possible}

-- no condition is refuted on S
abbrev pub NoneRefuted : List Cond → State → Type 0
NoneRefuted cs S = All (λ c. possible c S ≡ true) cs

-- at the place s the object o has the point p of its region, and there no condition is refuted
pub record Supports (cs : List Cond) (S : State) (o s : ℕ) (p : List ℤ) : Type 0 where
  pub place : has S o s ≡ true
  pub point : InBox p (reach S o).region
  pub unrefuted : NoneRefuted cs (with_at S o s (just p))

pub record IsSupported (cs : List Cond) (S : State) : Type 0 where
  pub nonempty : HasNoEmpty S
  pub unrefuted : NoneRefuted cs S
  -- each place has a point
  pub places : (o s : ℕ) → o < length S → has S o s ≡ true → (p : List ℤ) × Supports cs S o s p
  -- each end of each interval has a point, at some place
  pub lows : (o d : ℕ) → o < length S → d < dims S o → (s : ℕ) × (p : List ℤ) × Supports cs S o s p × (coordinate p d ≡ low S o d)
  pub highs : (o d : ℕ) → o < length S → d < dims S o → (s : ℕ) × (p : List ℤ) × Supports cs S o s p × (coordinate p d ≡ high S o d)

-- G is the greatest supported state inside S
pub record IsGreatest (cs : List Cond) (S G : State) : Type 0 where
  pub supported : IsSupported cs G
  pub inside : Inside G S
  pub greatest : (T : State) → IsSupported cs T → Inside T S → Inside T G

-- no supported state lies inside S
abbrev pub NoneInside : List Cond → State → Type 0
NoneInside cs S = (T : State) → IsSupported cs T → Inside T S → ⊥

-- at the point p of the box the object can be at the place s: no condition is refuted
pub record CanBeAt (cs : List Cond) (S : State) (o s : ℕ) (b : Region) (p : List ℤ) : Type 0 where
  pub point : InBox p b
  pub unrefuted : NoneRefuted cs (with_at S o s (just p))

-- p is the first such point of a way with that lead dimension, upwards or downwards
pub record IsFirstPoint (k lead : ℕ) (up : Bool) (cs : List Cond) (S : State) (o s : ℕ) (b : Region) (p : List ℤ) : Type 0 where
  pub point : CanBeAt cs S o s b p
  pub first : (q : List ℤ) → CanBeAt cs S o s b q → Before k lead up q p → ⊥

-- there is no such point
abbrev pub HasNoPoint : List Cond → State → ℕ → ℕ → Region → Type 0
HasNoPoint cs S o s b = (p : List ℤ) → CanBeAt cs S o s b p → ⊥
