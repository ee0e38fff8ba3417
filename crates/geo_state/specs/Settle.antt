-- What a settle answers and leaves.
use Rattle.std.specs.Prelude.{◌≡◌, ◌-◌, ◌++◌, ℕ, true, List, [], ◌∷◌, take, Result, Ok, Err}
use Rattle.std.specs.List.{All}
use Rattle.geo_conditions.specs.declared.cond.Cond.{Cond}
use Rattle.geo_conditions.specs.Conditions.{FitsIn, possible}
use Rattle.geo_conditions.specs.Reach.{State, Inside}
use Rattle.geo_conditions.specs.Supported.{IsGreatest, NoneInside}
use Rattle.derivation.specs.declared.event.Event.{Event}
use Rattle.derivation.specs.declared.event.Event.TheVariants as events
use Rattle.derivation.specs.Chains.{Leads, Closes}
use Rattle.geo_state.specs.declared.propagate.Settled.{Settled}
use Rattle.geo_state.specs.declared.propagate.Settled.TheVariants.{Kept, Dead}

-- from S: kept, it leaves the greatest supported state inside S; dead, there is none, and what is left lies inside S
abbrev pub Settles : List Cond → State → Settled → State → Type 0
Settles cs S Kept T = IsGreatest cs S T
Settles cs S Dead T = NoneInside cs S × Inside T S

-- the same with want of memory, after which what is left lies inside S
abbrev pub SettlesOr : {E : Type 0} → List Cond → State → Result Settled E → State → Type 0
SettlesOr cs S (Ok a) T = Settles cs S a T
SettlesOr cs S (Err e) T = Inside T S

-- the events that a settle from S to T adds: kept, a chain that leads from S to T; dead, a chain from S that is closed
abbrev pub AreEventsOf : List Cond → State → Settled → State → List Event → Type 0
AreEventsOf cs S Kept T es = Leads cs S es T
AreEventsOf cs S Dead T es = Closes cs S es

-- behind the old events stand those of the settle
abbrev pub Records : List Cond → State → Settled → State → List Event → List Event → Type 0
Records cs S a T old new = (es : List Event) × (new ≡ old ++ es) × AreEventsOf cs S a T es

-- the condition names no object: it fits a state that has none
abbrev pub IsBare : Cond → Type 0
IsBare c = FitsIn c []

-- where behind the old events stands alone that a condition is refuted, no bare condition before that one is refuted at S; so a bare one
-- that is blamed is the first
abbrev pub BlamesFirst : List Cond → State → List Event → List Event → Type 0
BlamesFirst cs S old new = (i : ℕ) → new ≡ old ++ events.Dead i ∷ [] → All (λ c. IsBare c → possible c S ≡ true) (take (i - 1) cs)
