-- What a repair of one object, and a pass over all of them, answer and leave.
use Rattle.std.specs.Prelude.{◌≡◌, ℕ, ◌<◌, List}
use Rattle.geo_conditions.specs.declared.cond.Cond.{Cond}
use Rattle.geo_conditions.specs.Reach.{State, Inside}
use Rattle.geo_conditions.specs.Supported.{IsSupported, NoneInside}
use Rattle.geo_conditions.specs.Keeps.{Keeps, size}
use Rattle.plain_propagate.specs.Defects.{ObjectFine}
use Rattle.plain_propagate.specs.declared.mending.Outcome.{Outcome}
use Rattle.plain_propagate.specs.declared.mending.Outcome.TheVariants.{Dead, Changed, Fine}

-- T is smaller than S, and lies inside it with every supported state that S has inside
abbrev pub IsNarrower : List Cond → State → State → Type 0
IsNarrower cs S T = Keeps cs S T × (size T < size S)

-- one object narrowed
abbrev pub Repairs : List Cond → State → ℕ → Outcome → State → Type 0
Repairs cs S o Dead T = NoneInside cs S × Inside T S
Repairs cs S o Changed T = IsNarrower cs S T
Repairs cs S o Fine T = (T ≡ S) × ObjectFine cs S o

-- all objects narrowed, one after another
abbrev pub Passes : List Cond → State → Outcome → State → Type 0
Passes cs S Dead T = NoneInside cs S × Inside T S
Passes cs S Changed T = IsNarrower cs S T
Passes cs S Fine T = (T ≡ S) × IsSupported cs S
