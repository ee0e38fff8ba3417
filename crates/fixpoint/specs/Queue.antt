-- The queue: a row of marks, one for each object.
use Rattle.std.specs.Prelude.{◌≡◌, ◌≢◌, ℕ, ◌<◌, Bool, true, false, List, length, slice_index_or, slice_set}
use Rattle.geo_conditions.specs.declared.cond.Cond.{Cond}
use Rattle.geo_conditions.specs.Reach.{State, Inside}
use Rattle.geo_conditions.specs.Supported.{NoneInside}
use Rattle.geo_conditions.specs.Keeps.{Keeps, size}
use Rattle.object_pruning.specs.Same.{SameBut}
use Rattle.fixpoint.specs.Near.{IsFine, IsUntouched}
use Rattle.object_pruning.specs.declared.prune.Pruned.{Pruned}
use Rattle.object_pruning.specs.declared.prune.Pruned.TheVariants.{Empty, Changed, Same}

-- no object is queued
abbrev pub NoneQueued : List Bool → Type 0
NoneQueued q = (o : ℕ) → slice_index_or q o false ≡ false

-- the object o was queued, and is taken out
abbrev pub IsPopped : List Bool → List Bool → ℕ → Type 0
IsPopped old new o = (o < length old) × (slice_index_or old o false ≡ true) × (new ≡ slice_set old o false)

-- each object is queued, but u, which is as it was, and those that are free; what was queued is queued still
pub record Queues (Free : ℕ → Type 0) (u : ℕ) (old new : List Bool) : Type 0 where
  pub objects : length new ≡ length old
  pub itself : slice_index_or new u false ≡ slice_index_or old u false
  pub others : (o : ℕ) → o ≢ u → o < length old → slice_index_or new o false ≡ false → (slice_index_or old o false ≡ false) × Free o

-- each object that is not queued is fine
abbrev pub RestFine : List Cond → State → List Bool → Type 0
RestFine cs S queued = (o : ℕ) → o < length S → slice_index_or queued o false ≡ false → IsFine cs S o

-- each object that differs in the two states is queued too, and so are those that it may hinder
pub record CatchesUp (cs : List Cond) (S T : State) (old new : List Bool) : Type 0 where
  pub objects : length new ≡ length old
  pub rest : (o : ℕ) → o < length old → slice_index_or new o false ≡ false → (slice_index_or old o false ≡ false) × IsUntouched cs S T o

-- o alone changed, no supported state is lost, and o is fine now
pub record Narrowed (cs : List Cond) (S T : State) (o : ℕ) : Type 0 where
  pub keeps : Keeps cs S T
  pub smaller : size T < size S
  pub alone : SameBut o S T
  pub fine : IsFine cs T o

-- what the pruning of an object means for all conditions
abbrev pub Prunes : List Cond → State → ℕ → Pruned → State → Type 0
Prunes cs S o Empty T = NoneInside cs S × Inside T S × SameBut o S T
Prunes cs S o Changed T = Narrowed cs S T o
Prunes cs S o Same T = (T ≡ S) × IsFine cs S o
