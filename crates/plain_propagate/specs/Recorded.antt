-- What is recorded behind the old events.
use Rattle.std.specs.Prelude.{◌≡◌, ℕ, true, List, length, ◌++◌}
use Rattle.geo_conditions.specs.declared.cond.Cond.{Cond}
use Rattle.geo_conditions.specs.Reach.{State, Region, dims}
use Rattle.geo_conditions.specs.Supported.{NoneRefuted}
use Rattle.geo_state.specs.Settle.{BlamesFirst}
use Rattle.derivation.specs.declared.event.Event.{Event}
use Rattle.derivation.specs.Covers.{CoverTree, events_of, covers, HasNumbersIn}
use Rattle.derivation.specs.Chains.{IsLed, IsClosed}
use Rattle.plain_propagate.specs.declared.mending.Outcome.{Outcome}
use Rattle.plain_propagate.specs.declared.mending.Outcome.TheVariants.{Dead, Changed, Fine}

-- behind the old events there is now a cover of the box
pub record RecordedCover (cs : List Cond) (S : State) (o s : ℕ) (b : Region) (old now : List Event) : Type 0 where
  pub tree : CoverTree
  pub events : now ≡ old ++ events_of tree
  pub covered : covers cs S o s b tree ≡ true
  pub numbers : HasNumbersIn (dims S o) (length cs) tree

-- from S to T: dead, the chain is closed, and else it leads there
abbrev pub RecordsOutcome : List Cond → State → Outcome → State → List Event → List Event → Type 0
RecordsOutcome cs S Dead T old now = IsClosed cs S old now
RecordsOutcome cs S Changed T old now = IsLed cs S T old now
RecordsOutcome cs S Fine T old now = IsLed cs S T old now

-- from S: dead, a bare condition that is blamed is the first; and else no condition was refuted at S
abbrev pub BlamesOutcome : List Cond → State → Outcome → List Event → List Event → Type 0
BlamesOutcome cs S Dead old now = BlamesFirst cs S old now
BlamesOutcome cs S Changed old now = NoneRefuted cs S
BlamesOutcome cs S Fine old now = NoneRefuted cs S
