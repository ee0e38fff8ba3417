-- What a refuted condition and the pruning of an object add to a record.
use Rattle.std.specs.Prelude.{◌≡◌, ◌<◌, ◌++◌, ℕ, true, List, slice_index}
use Rattle.geo_conditions.specs.declared.cond.Cond.{Cond}
use Rattle.geo_conditions.specs.Conditions.{possible}
use Rattle.geo_conditions.specs.Reach.{State}
use Rattle.derivation.specs.declared.event.Event.{Event}
use Rattle.sweep.specs.Picks.{PicksAt}
use Rattle.object_pruning.specs.declared.prune.Pruned.{Pruned}
use Rattle.object_pruning.specs.Record.{AreEventsOfPruning}

-- behind the old events stand those of a pruning from S to T
abbrev pub RecordsPruning : List Cond → State → Pruned → State → List Event → List Event → Type 0
RecordsPruning cs S a T old new = (es : List Event) × (new ≡ old ++ es) × AreEventsOfPruning cs S a T es

-- no picked condition with a lower number is refuted
abbrev pub NoneLower : List Cond → List ℕ → State → ℕ → Type 0
NoneLower cs picks S i = (k : ℕ) (x : Cond) → PicksAt cs picks k x → slice_index picks k < i → possible x S ≡ true
