-- Parts of a region that conditions forbid, known before a sweep.
use Rattle.std.specs.Prelude.{◌≡◌, ℕ, List, slice_get, Option, Some}
use Rattle.geo_base.specs.declared.kbox.KBox.{KBox}
use Rattle.geo_conditions.specs.declared.cond.Cond.{Cond}
use Rattle.geo_conditions.specs.Reach.{State, Region}
use Rattle.geo_conditions.specs.Regions.{region_of}
use Rattle.indexical.specs.Forbidden.{IsForbiddenPart}
use Rattle.sweep.specs.Picks.{PicksAt}

-- where a box stands for the k-th pick, it is what its condition forbids o of the region at the place s
abbrev pub AreParts : (K : ℕ) → List Cond → List ℕ → State → ℕ → ℕ → Region → List (Option (KBox K)) → Type 0
AreParts K cs picks S o s region parts = (k : ℕ) (b : KBox K) (x : Cond) → slice_get parts k ≡ Some (Some b) → PicksAt cs picks k x → IsForbiddenPart K x S o s region (region_of b)
