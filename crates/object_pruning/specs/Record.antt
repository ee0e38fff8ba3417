-- What a pruning adds to a record.
use Rattle.std.specs.Prelude.{◌≡◌, ◌<◌, ◌+◌, ◌≤ℤ◌, ℕ, ℤ, Bool, true, false, List, ◌∷◌, ◌++◌, length, slice_set, Option, None, Some}
use Rattle.geo_base.specs.Boxes.{coordinate}
use Rattle.geo_base.specs.Ways.{toward}
use Rattle.geo_conditions.specs.declared.cond.Cond.{Cond}
use Rattle.geo_conditions.specs.Reach.{State, reach}
use Rattle.derivation.specs.declared.event.Event.{Event}
use Rattle.derivation.specs.declared.event.Event.TheVariants.{Gone}
use Rattle.derivation.specs.declared.side.Side.{Side}
use Rattle.derivation.specs.declared.side.Side.TheVariants.{Upto, From}
use Rattle.derivation.specs.Cuts.{far}
use Rattle.derivation.specs.PlaceCovers.{PlaceCover, covers_events, RecordedBelow}
use Rattle.derivation.specs.Chains.{Leads, Closes, EndHolds, IsGone, moved}
use Rattle.object_pruning.specs.declared.kept.Placed.{Placed}
use Rattle.object_pruning.specs.declared.prune.Pruned.{Pruned}
use Rattle.object_pruning.specs.declared.prune.Pruned.TheVariants.{Empty, Changed, Same}

-- the side on which an interval lies whose low end, upwards, or else high end is v
abbrev pub end_side : Bool → ℕ → ℤ → Side
end_side true d v = From d v
end_side false d v = Upto d v

-- S with that end of an interval of the object at v
abbrev pub with_end : State → ℕ → ℕ → Bool → ℤ → State
with_end S o d up v = slice_set S o (moved (end_side up d v) (reach S o))

-- v does not lie beyond the point, if there is one
abbrev pub IsNotBeyond : {K : ℕ} → ℕ → Bool → ℤ → Option (Placed K) → Type 0
IsNotBeyond d up v None = Unit {0}
IsNotBeyond d up v (Some q) = toward up v ≤ℤ toward up (coordinate q.point.coordinates d)

-- behind the old events there are now covers of what an end at v cuts off, one for each place below n that is left
abbrev pub AreListedBelow : List Cond → State → ℕ → ℕ → Bool → ℤ → ℕ → List Event → List Event → Type 0
AreListedBelow cs S o d up v n old new = RecordedBelow cs S o (far (end_side up d v) (reach S o).region) n old new

-- such covers of the places below n go on to those of the places below n + 1
abbrev pub ListsPlace : List Cond → State → ℕ → ℕ → Bool → ℤ → ℕ → List Event → List Event → Type 0
ListsPlace cs S o d up v n mid new = (old : List Event) → AreListedBelow cs S o d up v n old mid → AreListedBelow cs S o d up v (n + 1) old new

-- behind the old events there is now such a cover for each place that is left
abbrev pub AreListed : List Cond → State → ℕ → ℕ → Bool → ℤ → List Event → List Event → Type 0
AreListed cs S o d up v old new = (n : ℕ) × (length (reach S o).places < n) × AreListedBelow cs S o d up v n old new

-- the events that a pruning from S to T adds: a chain that leads from S to T; where no point is left, a chain from S that is closed
abbrev pub AreEventsOfPruning : List Cond → State → Pruned → State → List Event → Type 0
AreEventsOfPruning cs S Empty T es = Closes cs S es
AreEventsOfPruning cs S Changed T es = Leads cs S es T
AreEventsOfPruning cs S Same T es = Leads cs S es T

-- From S the events are a chain, and then the node of the object o, which is gone: its event, and the
-- covers. They hold at the state behind the chain: one of its whole region for each place left.
pub record ClosesByGone (cs : List Cond) (S : State) (o : ℕ) (es : List Event) : Type 0 where
  pub chain : List Event
  pub state : State
  pub covers : List PlaceCover
  pub events : es ≡ chain ++ Gone (record { 0 = o }) ∷ covers_events covers
  pub leads : Leads cs S chain state
  pub holds : EndHolds cs state (IsGone o covers)

-- behind the old events stand some that close so
abbrev pub IsClosedByGone : List Cond → State → ℕ → List Event → List Event → Type 0
IsClosedByGone cs S o old new = (es : List Event) × (new ≡ old ++ es) × ClosesByGone cs S o es
