-- What is watched of conditions on a state that changes.
use Rattle.std.specs.Prelude.{◌≡◌, ℕ, ◌+◌, ◌*◌, ◌<◌, ◌≤◌, List, length, slice_index_or, slice_set, ℤ}
use Rattle.std.specs.List.{All}
use Rattle.geo_base.specs.declared.TheConstants.{MAX_DIMS}
use Rattle.geo_conditions.specs.declared.object.TheConstants.{MAX_OBJECTS}
use Rattle.geo_conditions.specs.declared.cond.Cond.{Cond, Lin}
use Rattle.geo_conditions.specs.Form.{Sum}
use Rattle.geo_conditions.specs.Conditions.{least_value}
use Rattle.geo_conditions.specs.Sums.{InSum}
use Rattle.geo_conditions.specs.Reach.{State}
use Rattle.indexical.specs.Free.{SparesAnywhere}
use Rattle.watches.specs.Rests.{RestsOn}
use Rattle.watches.specs.declared.watches.Total.{Total}
use Rattle.watches.specs.declared.watches.Watch.{Watch}
use Rattle.watches.specs.declared.watches.Watches.{Watches}
use Rattle.watches.specs.declared.watches.TheConstants.{LAST, PLACES}

-- the object did not change after that time
abbrev pub Rested : Watches → ℕ → ℕ → Type 0
Rested w t o = slice_index_or w.changed.items o LAST ≤ t

-- neither object of the watch changed since
abbrev pub IsFresh : Watches → Watch → Type 0
IsFresh w x = Rested w x.since x.first.0 × Rested w x.since x.second.0

-- it was found before now, and before the clock stopped
abbrev pub IsPast : Watches → Watch → Type 0
IsPast w x = (x.since ≤ w.clock) × (x.since < LAST)

-- the number is the least value of the form on the state
pub record IsTotal (f : Sum) (S : State) (value : ℤ) : Type 0 where
  pub least : value ≡ least_value f S
  pub small : InSum (MAX_OBJECTS * MAX_DIMS + 1) value

-- a total that was added up by now: as long as nothing changed, it is the least value of its condition
pub record Totals (cs : List Cond) (S : State) (w : Watches) (x : Total) : Type 0 where
  pub past : x.since ≤ w.clock
  pub value : (c : Cond) (f : Sum) → x.condition < length cs → x.since ≡ w.clock → x.since < LAST → slice_index_or cs x.condition c ≡ Lin f → IsTotal f S x.value

-- there is room for some looks, and for two watches for each of them
abbrev pub HavePlaces : Watches → Type 0
HavePlaces w = (0 < length w.looks.items) × (length w.looks.items ≤ PLACES) × (length w.found.items ≡ length w.looks.items + length w.looks.items)

-- of the conditions on the state: where neither object of a watch changed since, its condition rests on both, and totals are right
pub record Hold (cs : List Cond) (S : State) (w : Watches) : Type 0 where
  pub watched : length w.watched.items ≡ length cs
  pub places : HavePlaces w
  pub objects : length w.changed.items ≡ length S
  pub past : All (IsPast w) w.found.items
  pub rests : All (λ x. (c : Cond) → x.condition < length cs → IsFresh w x → RestsOn (slice_index_or cs x.condition c) S x.first.0 x.second.0) w.found.items
  pub as_many : length w.totals.items ≡ length w.looks.items
  pub totals : All (Totals cs S w) w.totals.items

-- the k-th watch alone is another one
pub record IsPut (k : ℕ) (x : Watch) (old new : Watches) : Type 0 where
  pub watched : length new.watched.items ≡ length old.watched.items
  pub looks : length new.looks.items ≡ length old.looks.items
  pub found : new.found.items ≡ slice_set old.found.items k x
  pub totals : new.totals.items ≡ old.totals.items
  pub changed : new.changed.items ≡ old.changed.items
  pub clock : new.clock ≡ old.clock

-- what is found is the same
pub record IsNoted (old new : Watches) : Type 0 where
  pub watched : length new.watched.items ≡ length old.watched.items
  pub looks : length new.looks.items ≡ length old.looks.items
  pub found : new.found.items ≡ old.found.items
  pub totals : new.totals.items ≡ old.totals.items
  pub changed : new.changed.items ≡ old.changed.items
  pub clock : new.clock ≡ old.clock

-- what is watched still holds, if the i-th condition rests on the two objects
abbrev pub IsWatched : ℕ → ℕ → ℕ → Watches → Watches → Type 0
IsWatched i a b old new = (cs : List Cond) (S : State) → Hold cs S old → ((c : Cond) → i < length cs → RestsOn (slice_index_or cs i c) S a b) → Hold cs S new

-- the k-th total alone is another one
pub record IsAdded (k : ℕ) (x : Total) (old new : Watches) : Type 0 where
  pub watched : length new.watched.items ≡ length old.watched.items
  pub looks : length new.looks.items ≡ length old.looks.items
  pub found : new.found.items ≡ old.found.items
  pub totals : new.totals.items ≡ slice_set old.totals.items k x
  pub changed : new.changed.items ≡ old.changed.items
  pub clock : new.clock ≡ old.clock

-- where what is watched holds and the i-th condition is the form, the number is its least value, and it holds still
pub record AddsUp (i : ℕ) (f : Sum) (S : State) (value : ℤ) (old new : Watches) : Type 0 where
  pub total : (cs : List Cond) → i < length cs → ((c : Cond) → slice_index_or cs i c ≡ Lin f) → Hold cs S old → IsTotal f S value
  pub hold : (cs : List Cond) → i < length cs → ((c : Cond) → slice_index_or cs i c ≡ Lin f) → Hold cs S old → Hold cs S new

-- What is watched is the same, and of what did not change since a time of old the test is met. Where the clock stands, it is met of each.
pub record Later (Same : ℕ → Type 0) (old new : Watches) : Type 0 where
  pub watched : length new.watched.items ≡ length old.watched.items
  pub looks : length new.looks.items ≡ length old.looks.items
  pub found : new.found.items ≡ old.found.items
  pub totals : new.totals.items ≡ old.totals.items
  pub objects : length new.changed.items ≡ length old.changed.items
  pub clock : old.clock ≤ new.clock
  pub still : new.clock ≤ old.clock → new.clock < LAST → (o : ℕ) → Same o
  pub back : (o t : ℕ) → t ≤ old.clock → t < LAST → Rested new t o → Rested old t o × Same o

-- of any so many conditions and any state of so many objects
abbrev pub HoldAnyhow : ℕ → ℕ → Watches → Type 0
HoldAnyhow conditions objects w = (cs : List Cond) (S : State) → length cs ≡ conditions → length S ≡ objects → Hold cs S w

-- where what is watched holds, the i-th condition is possible wherever the object is put
abbrev pub TellSpared : Watches → ℕ → ℕ → Type 0
TellSpared w i o = (cs : List Cond) (S : State) (c : Cond) → i < length cs → Hold cs S w → SparesAnywhere (slice_index_or cs i c) S o
