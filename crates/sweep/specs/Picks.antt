-- Numbers that pick from a list. They count from 1.
use Rattle.std.specs.Prelude.{◌≡◌, ℕ, ◌-◌, ◌<◌, List, length, slice_get, slice_index, Some, true, ℤ}
use Rattle.std.specs.List.{All, filter_map}
use Rattle.geo_conditions.specs.declared.cond.Cond.{Cond}
use Rattle.geo_conditions.specs.Reach.{State, Region}
use Rattle.geo_base.specs.Ways.{IsSmallPoint}
use Rattle.indexical.specs.Forbidden.{IsForbiddenBox}
use Rattle.sweep.specs.Sweep.{refutes_pick}

-- each number names a place of a list of that length
abbrev pub ArePicks : ℕ → List ℕ → Type 0
ArePicks n picks = All (λ i. (0 < i) × (i - 1 < n)) picks

-- what they pick, in their order
abbrev pub picked : {X : Type 0} → List X → List ℕ → List X
picked list picks = filter_map (λ i. slice_get list (i - 1)) picks

-- the k-th number picks x
abbrev pub PicksAt : {X : Type 0} → List X → List ℕ → ℕ → X → Type 0
PicksAt list picks k x = (k < length picks) × (slice_get list (slice_index picks k - 1) ≡ Some x)

-- the condition that the k-th number picks forbids the box b of the region, which has the point c; so the number is known to refute it
pub record IsPickedBox (K : ℕ) (cs : List Cond) (picks : List ℕ) (S : State) (o s : ℕ) (c : List ℤ) (region : Region) (k : ℕ) (b : Region) : Type 0 where
  pub condition : Cond
  pub pick : PicksAt cs picks k condition
  pub box : IsForbiddenBox K condition S o s c region b
  pub known : refutes_pick cs picks S o s (slice_index picks k) b.lo b.hi ≡ true
  pub small_low : IsSmallPoint K region.lo → IsSmallPoint K region.hi → IsSmallPoint K b.lo
  pub small_high : IsSmallPoint K region.lo → IsSmallPoint K region.hi → IsSmallPoint K b.hi
