-- What the pruning of one object leaves.
use Rattle.std.specs.Prelude.{◌≡◌, ℕ, ◌<◌, ◌↔◌, Bool, true, false, List, ℤ}
use Rattle.geo_base.specs.Boxes.{coordinate}
use Rattle.geo_base.specs.Ways.{IsSmallPoint}
use Rattle.geo_base.specs.declared.kbox.KBox.{KBox}
use Rattle.geo_conditions.specs.declared.cond.Cond.{Cond}
use Rattle.geo_conditions.specs.Reach.{State, reach, has, low, high, dims, Inside}
use Rattle.geo_conditions.specs.Supported.{CanBeAt}
use Rattle.geo_conditions.specs.Keeps.{size}
use Rattle.object_pruning.specs.Same.{SameBut}
use Rattle.object_pruning.specs.declared.prune.Pruned.{Pruned}
use Rattle.object_pruning.specs.declared.prune.Pruned.TheVariants.{Empty, Changed, Same}

-- at the place s, which is there, the object o can be at the point p of its region: no condition is refuted
pub record CanBe (cs : List Cond) (S : State) (o s : ℕ) (p : List ℤ) : Type 0 where
  pub place : has S o s ≡ true
  pub point : CanBeAt cs S o s (reach S o).region p

-- T is S but for the object o, which has the same points
pub record HasSamePoints (cs : List Cond) (o : ℕ) (S T : State) : Type 0 where
  pub alone : SameBut o S T
  pub points : (s : ℕ) (p : List ℤ) → CanBe cs S o s p ↔ CanBe cs T o s p

-- each place of the object has a point, and so has each end of each interval, at some place
pub record IsTight (cs : List Cond) (S : State) (o : ℕ) : Type 0 where
  pub places : (s : ℕ) → has S o s ≡ true → (p : List ℤ) × CanBe cs S o s p
  pub lows : (d : ℕ) → d < dims S o → (s : ℕ) × (p : List ℤ) × CanBe cs S o s p × (coordinate p d ≡ low S o d)
  pub highs : (d : ℕ) → d < dims S o → (s : ℕ) × (p : List ℤ) × CanBe cs S o s p × (coordinate p d ≡ high S o d)

-- The object's places and bounds are now exactly those of its points. Same: they were before. Empty: it has no point
abbrev pub PrunesTo : List Cond → ℕ → State → Pruned → State → Type 0
PrunesTo cs o S Same T = (T ≡ S) × IsTight cs S o
PrunesTo cs o S Changed T = HasSamePoints cs o S T × IsTight cs T o × Inside T S × (size T < size S)
PrunesTo cs o S Empty T = ((s : ℕ) (p : List ℤ) → CanBe cs S o s p → ⊥) × Inside T S

-- what a pruning gives that left a point, where something moved or nothing did
abbrev pub outcome : Bool → Pruned
outcome true = Changed
outcome false = Same

-- the coordinates of both corners lie within the limits
abbrev pub IsSmallBox : {K : ℕ} → KBox K → Type 0
IsSmallBox {K} b = IsSmallPoint K b.lo.coordinates × IsSmallPoint K b.hi.coordinates
