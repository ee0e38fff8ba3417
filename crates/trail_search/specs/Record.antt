-- The record of a search: what its events lead to, and what closes them.
use Rattle.std.specs.Prelude.{◌≡◌, ℕ, zero, suc, List, [], ◌∷◌, ◌++◌, slice_index_or, ℤ, pos, Option, Some, None}
use Rattle.geo_conditions.specs.declared.cond.Cond.{Cond}
use Rattle.geo_conditions.specs.Reach.{State, Reach}
use Rattle.geo_conditions.specs.Walk.{Variable, PlaceOf, object_of, IsFirstValue}
use Rattle.derivation.specs.declared.event.Event.{Event}
use Rattle.derivation.specs.Valid.{first_part, second_part, change}
use Rattle.whole_derivation.specs.Whole.{IsDerivation}
use Rattle.geo_state.specs.declared.propagate.Settled.{Settled}
use Rattle.geo_state.specs.declared.propagate.Settled.TheVariants.{Kept, Dead}
use Rattle.trail_search.specs.declared.step.Step.{Step}
use Rattle.trail_search.specs.declared.step.Step.TheVariants.{Found, Ended, Budget, Memory}
use Rattle.trail_search.specs.Cursor.{HasAfter}
use Rattle.trail_search.specs.Variables.{half_of, split_of}
use Rattle.trail_search.specs.Walker.{Position, depth}

-- what is left of G where the variable has its first value v, and where it has a later one
abbrev pub with_first : Variable → ℤ → State → State
with_first x v G = change (first_part (half_of x v)) G (object_of x)

abbrev pub with_later : Variable → ℤ → State → State
with_later x v G = change (second_part (half_of x v)) G (object_of x)

-- a level: the state that it restores, and the variable that it fixes to its first value there
pub record Level : Type 0 where
  pub restores : List Reach
  pub variable : Variable
  pub value : ℤ

-- the level of that number
abbrev pub level : Position → ℕ → Level
level p m = record {
  restores = slice_index_or p.trail.restores m [];
  variable = slice_index_or p.variables m (PlaceOf 0);
  value = slice_index_or p.values m (pos 0);
}

-- the variable of the level has a later value
abbrev pub HasLater : Level → Type 0
HasLater l = HasAfter l.restores l.variable l.value

-- the state of the second case of the level
abbrev pub later_case : Level → State
later_case l = with_later l.variable l.value l.restores

-- the first levels of that number, the last one first
abbrev pub levels_below : Position → ℕ → List Level
levels_below p zero = []
levels_below p (suc m) = level p m ∷ levels_below p m

-- the open levels
abbrev pub open_levels : Position → List Level
open_levels p = levels_below p (depth p)

-- With these open levels, the last one first, the case that the last one has fixed is closed by the events. Where it has a second case, a
-- derivation of that closes what the level restores; where it has none, that is closed already. Without levels the first state is closed.
abbrev pub ClosesCase : List Cond → State → List Level → List Event → Type 0
ClosesCase cs first [] es = IsDerivation cs first es
ClosesCase cs first (l ∷ ls) es =
    IsFirstValue l.restores l.variable l.value
    × (HasLater l → (fs : List Event) → IsDerivation cs (later_case l) fs → ClosesCase cs first ls (es ++ fs))
    × ((HasLater l → ⊥) → ClosesCase cs first ls es)

-- with a derivation of the state S behind them, the events close the last case
abbrev pub ClosesWith : List Cond → State → List Level → State → List Event → Type 0
ClosesWith cs first levels S es = (fs : List Event) → IsDerivation cs S fs → ClosesCase cs first levels (es ++ fs)

-- the events of a search that stands there close its last case
abbrev pub IsClosedRecord : List Cond → Position → List Event → Type 0
IsClosedRecord cs p es = ClosesCase cs p.first (open_levels p) es

-- the events of a search that stands there: with a derivation of its state behind them they close its last case
abbrev pub IsRecord : List Cond → Position → List Event → Type 0
IsRecord cs p es = ClosesWith cs p.first (open_levels p) p.trail.state es

-- The events of a search behind its answer: where it has ended, they are a derivation of its first state; and where it stands in S below
-- open levels, they close the last case with a derivation of S behind them.
abbrev pub RecordsAnswer : List Cond → State → List Level → State → Step → List Event → Type 0
RecordsAnswer cs first levels S Found es = ClosesWith cs first levels S es
RecordsAnswer cs first levels S Budget es = ClosesWith cs first levels S es
RecordsAnswer cs first levels S Ended es = IsDerivation cs first es
RecordsAnswer cs first levels S Memory es = Unit {0}

-- the same by where it stands
abbrev pub RecordsStep : List Cond → Position → Step → List Event → Type 0
RecordsStep cs p s es = RecordsAnswer cs p.first (open_levels p) p.trail.state s es

-- what a settle makes of the record
abbrev pub SettlesRecord : List Cond → Settled → Position → List Event → Type 0
SettlesRecord cs Kept p es = IsRecord cs p es
SettlesRecord cs Dead p es = IsClosedRecord cs p es

-- the two cases of a variable are recorded where it has a later value than v, and else nothing is
abbrev pub RecordsCases : State → Variable → ℤ → List Event → List Event → Type 0
RecordsCases G x v old new = (HasAfter G x v → new ≡ old ++ split_of x v ∷ []) × ((HasAfter G x v → ⊥) → new ≡ old)

-- T is G with the variable at its first value v, which it has already where it has no later one
abbrev pub IsFixedTo : State → Variable → ℤ → State → Type 0
IsFixedTo G x v T = (HasAfter G x v → T ≡ with_first x v G) × ((HasAfter G x v → ⊥) → T ≡ G)

-- the search has not set off: it stands in the first state
pub record IsUnmoved (p : Position) : Type 0 where
  pub state : p.trail.state ≡ p.first
  pub restores : p.trail.restores ≡ []

-- the events of a search that found nothing so far: before it is over it has none and has not set off
abbrev pub Derives : List Cond → Position → Option Step → List Event → Type 0
Derives cs p None es = IsUnmoved p × (es ≡ [])
Derives cs p (Some s) es = RecordsStep cs p s es
