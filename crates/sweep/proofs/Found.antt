-- What a sweep has found, and what it has covered, told of its answer.
use Rattle.std.proofs.Common.{◌≡◌, ℕ, ℤ, Bool, true, List, Option, Some, None, Result, Ok, Err, IfOk}
use Rattle.std.specs.Prelude.{MatchOption}
use Rattle.std.specs.Option.{option_map}
use Rattle.geo_conditions.specs.declared.cond.Cond.{Cond}
use Rattle.geo_conditions.specs.Reach.{State, Region}
use Rattle.geo_conditions.specs.Supported.{IsFirstPoint, HasNoPoint}
use Rattle.derivation.specs.declared.event.Event.{Event}
use Rattle.sweep.specs.Picks.{picked}
use Rattle.sweep.specs.Sweep.{part_before, IsCovered}
use Rattle.sweep.specs.Swept.{HasFound}

module _ {T E : Type 0} (K lead : ℕ) (up keeps : Bool) (cs : List Cond) (picks : List ℕ) (S : State) (o s : ℕ) (b : Region) (old new : List Event) (at : T → List ℤ) where
  pub point_of : (r : Result (Option T) E) → IfOk r (λ t. HasFound K lead up keeps cs picks S o s b old new (option_map at t)) → IfOk r (λ t. MatchOption t (HasNoPoint (picked cs picks) S o s b) (λ p. IsFirstPoint K lead up (picked cs picks) S o s b (at p)))
  point_of (Ok (Some p)) h = h.point
  point_of (Ok None) h = h.point
  point_of (Err e) h = tt

  pub covered_of : (r : Result (Option T) E) → IfOk r (λ t. HasFound K lead up keeps cs picks S o s b old new (option_map at t))
      → IfOk r (λ t. keeps ≡ true → MatchOption t (IsCovered K cs picks S o s b old new) (λ p. IsCovered K cs picks S o s (part_before lead up (at p) b) old new))
  covered_of (Ok (Some p)) h = h.covered
  covered_of (Ok None) h = h.covered
  covered_of (Err e) h = tt
