-- What a sweep starts from, and what it has made of its record and its questions.
use Rattle.std.specs.Prelude.{◌≡◌, ℕ, ◌+◌, ◌*◌, ◌^◌, ◌≤◌, true, Bool, ℤ, List, length, Option, Result, is_ok, IfOk, MatchOption}
use Rattle.std.specs.List.{All}
use Rattle.geo_base.specs.Boxes.{IsUncrossed}
use Rattle.geo_base.specs.Ways.{start}
use Rattle.geo_conditions.specs.declared.cond.Cond.{Cond}
use Rattle.geo_conditions.specs.Reach.{State, Region, dims}
use Rattle.geo_conditions.specs.Supported.{IsFirstPoint, HasNoPoint}
use Rattle.derivation.specs.declared.event.Event.{Event}
use Rattle.derivation.specs.Events.{Growth}
use Rattle.indexical.specs.Disjunctions.{IsDisjunction}
use Rattle.sweep.specs.Jump.{IsPast}
use Rattle.sweep.specs.Picks.{picked}
use Rattle.sweep.specs.Sweep.{part_before, IsCovered}

-- the region b has K dimensions as the object has, and some point; c is its first corner, and the jump n and the point past are one past it
pub record IsBegun (K : ℕ) (up : Bool) (S : State) (o : ℕ) (b : Region) (past c n : List ℤ) : Type 0 where
  pub dimensions : dims S o ≡ K
  pub low : length b.lo ≡ K
  pub high : length b.hi ≡ K
  pub full : IsUncrossed K b.lo b.hi
  pub past_is : IsPast K up b.lo b.hi past
  pub at_start : c ≡ start up b.lo b.hi
  pub jump : n ≡ past

-- the point is the first one at which no picked condition is refuted, or there is none, and what comes before it is covered
pub record HasFound (K lead : ℕ) (up keeps : Bool) (cs : List Cond) (picks : List ℕ) (S : State) (o s : ℕ) (b : Region) (old new : List Event) (found : Option (List ℤ)) : Type 0 where
  pub point : MatchOption found (HasNoPoint (picked cs picks) S o s b) (λ p. IsFirstPoint K lead up (picked cs picks) S o s b p)
  pub covered : keeps ≡ true → MatchOption found (IsCovered K cs picks S o s b old new) (λ p. IsCovered K cs picks S o s (part_before lead up p b) old new)

-- the sweep has found that point if it did not fail, and kept within its bounds; the events were old and are new, the refusals were before
-- and are later, and the questions were begun and are asked
pub record HasSwept {T E : Type 0} (K lead : ℕ) (up keeps : Bool) (cs : List Cond) (picks : List ℕ) (S : State) (o s : ℕ) (b : Region) (old new : List Event) (before later begun asked : ℕ) (result : Result T E) (at : T → Option (List ℤ)) : Type 0 where
  pub found : IfOk result (λ t. HasFound K lead up keeps cs picks S o s b old new (at t))
  pub asked_few : All (IsDisjunction o) (picked cs picks) → asked ≤ begun + length picks * (length picks + 1) ^ K
  pub events_few : keeps ≡ true → All (IsDisjunction o) (picked cs picks) → length new ≤ length old + 2 * K * (length picks + 1) ^ K + 1
  pub grows : Growth keeps old new before later (is_ok result)
