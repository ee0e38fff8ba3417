-- How near the other object is where a condition of a row is refuted that names one.
use Rattle.std.specs.Prelude.{◌≡◌, ℕ, ◌-◌, ◌<◌, ◌≤ℤ◌, ◌<ℤ◌, ◌+ℤ◌, ℤ, pos, List, slice_get, Some}
use Rattle.geo_base.specs.Boxes.{coordinate, Has}
use Rattle.geo_conditions.specs.declared.cond.Cond.{Cond}
use Rattle.geo_conditions.specs.declared.object.ObjId.{ObjId}
use Rattle.geo_conditions.specs.Reach.{State, Region, low, high}
use Rattle.indexical.specs.Nearness.{IsRefutedNear}
use Rattle.object_pruning.specs.declared.rows.Group.{Group}
use Rattle.object_pruning.specs.declared.near.Near.{Near}
use Rattle.object_pruning.specs.Limits.{IsAtLeast}
use Rattle.object_pruning.specs.Runs.{IsInGroup}

-- some group of the list has the number i, and its other object is u
abbrev pub HaveBeside : List Group → ℕ → ObjId → Type 0
HaveBeside gs i u = (k : ℕ) × (g : Group) × (slice_get gs k ≡ Some g) × (g.other ≡ Some u) × IsInGroup g i

-- where a condition of those numbers is refuted, o and that other object are so near
abbrev pub AreRefutedNear : List Cond → ℕ → (ℕ → ObjId → Type 0) → Near → Type 0
AreRefutedNear cs o Those n = (i : ℕ) (u : ObjId) (x : Cond) → Those i u → slice_get cs (i - 1) ≡ Some x → IsRefutedNear n.dims x o u.0 n.ahead.coordinates n.behind.coordinates

-- so it is of the conditions of a row that name another object
abbrev pub IsNearRow : List Cond → ℕ → List Group → Near → Type 0
IsNearRow cs o gs n = AreRefutedNear cs o (HaveBeside gs) n

-- m has the dimensions of n, and is nowhere less
pub record IsWider (n m : Near) : Type 0 where
  pub dims : m.dims ≡ n.dims
  pub ahead : IsAtLeast n.dims n.ahead.coordinates m.ahead.coordinates
  pub behind : IsAtLeast n.dims n.behind.coordinates m.behind.coordinates

-- with o at a point of the region, o and u are in some dimension not so near
abbrev pub IsFar : ℕ → State → ℕ → Near → Region → Type 0
IsFar K S u n region = (q : List ℤ) → Has K region.lo region.hi q
    → ((d : ℕ) → d < K → (high S u d <ℤ (coordinate q d +ℤ coordinate n.ahead.coordinates d)) × (coordinate q d <ℤ (low S u d +ℤ coordinate n.behind.coordinates d))) → ⊥

-- in some dimension the interval of o is too long for the other object to be so near wherever o is
abbrev pub IsIdle : State → ℕ → Near → Type 0
IsIdle S o n = (d : ℕ) × (d < n.dims) × ((low S o d +ℤ coordinate n.ahead.coordinates d +ℤ coordinate n.behind.coordinates d) ≤ℤ (high S o d +ℤ pos 1))
