-- What a search is seen as, and what `next` answers.
use Rattle.std.specs.Prelude.{◌≡◌, ◌≢◌, ℕ, Bool, ◌+◌, ◌-◌, ◌^◌, min, ◌≤◌, true, false, List, [], ◌∷◌, ◌++◌, length, drop, Option, Some, None, ℤ}
use Rattle.std.specs.List.{All}
use Rattle.geo_conditions.specs.declared.cond.Cond.{Cond}
use Rattle.geo_conditions.specs.Conditions.{FitsIn}
use Rattle.geo_conditions.specs.Reach.{State, IsState, Tuple}
use Rattle.geo_conditions.specs.Walk.{Order, NamesEach, variables_in, Tree, values, is_full, IsFront, IsWhole, GoesOn}
use Rattle.derivation.specs.declared.event.Event.{Event}
use Rattle.trail_search.specs.Walker.{Position, IsWell, IsReady}
use Rattle.trail_search.specs.Record.{Level, RecordsAnswer, Derives}
use Rattle.trail_search.specs.declared.step.Step.{Step}
use Rattle.trail_search.specs.declared.step.Step.TheVariants.{Found, Ended, Budget, Memory}

-- a search: its walk, the budget, how many members it has walked, its full member after a Found, whether a full member was found so far,
-- the answer that ended it, the events and refusals of its recorder, whether a recorder that keeps events had none at the start, the state
-- in which it stands, and its open levels, the last one first
pub record SearchView : Type 0 where
  pub walk : Tree
  pub budget : ℕ
  pub walked : ℕ
  pub layout : Option (List ℤ)
  pub some_found : Bool
  pub over : Option Step
  pub events : List Event
  pub refusals : ℕ
  pub began_empty : Bool
  pub state : State
  pub levels : List Level

-- w are the members that the search has walked
abbrev pub HasWalked : SearchView → List (List ℤ) → Type 0
HasWalked a w = IsFront a.walk w × (length w ≡ a.walked)

-- no full member came after those that a had walked
abbrev pub NoneSince : SearchView → List (List ℤ) → Type 0
NoneSince a w = All (λ q. is_full a.walk q ≡ false) (drop a.walked w)

-- one answer on a search that was not over, and what it leaves
abbrev pub Answers : SearchView → Step → SearchView → Type 0
-- q is the next full member, within the budget
Answers a Found b =
    (w : List (List ℤ)) × (q : List ℤ) × HasWalked b (w ++ q ∷ []) × (a.walked ≤ length w) × NoneSince a w × (is_full a.walk q ≡ true) × (b.layout ≡ Some q) × (b.walked ≤ a.budget) × (b.over ≡ None)
-- the walk is used up
Answers a Ended b =
    (w : List (List ℤ)) × HasWalked b w × IsWhole a.walk w × NoneSince a w × (b.walked ≤ a.budget) × (b.over ≡ Some Ended)
-- the budget is used up, and the walk goes on
Answers a Budget b =
    (w : List (List ℤ)) × HasWalked b w × (b.walked ≡ a.budget) × GoesOn a.walk w × NoneSince a w × (b.over ≡ Some Budget)
-- the recorder refused: its count rose, or stands at its last value
Answers a Memory b = (min (a.refusals + 1) (2 ^ 64 - 1) ≤ b.refusals) × (b.over ≡ Some Memory)

-- a search that is over gives its last answer again
abbrev pub AsBefore : Option Step → SearchView → Step → SearchView → Type 0
AsBefore None a s b = Answers a s b
AsBefore (Some e) a s b = (s ≡ e) × (b ≡ a)

-- what `next` answers, and what it leaves
abbrev pub Steps : SearchView → Step → SearchView → Type 0
Steps a s b = (b.walk ≡ a.walk) × (b.budget ≡ a.budget) × AsBefore a.over a s b

-- the answer is that a full member was found
abbrev pub is_found : Step → Bool
is_found Found = true
is_found Ended = false
is_found Budget = false
is_found Memory = false

-- the full member that was found has the values of that tuple
abbrev pub HasFound : SearchView → Tuple → Type 0
HasFound a t = a.layout ≡ Some (values a.walk.variables t)

-- the events behind the answer: they are a derivation of the walk's first state, or with one of the state in which the search stands behind
-- them they close its levels
abbrev pub HasRecorded : Step → SearchView → Type 0
HasRecorded s a = RecordsAnswer a.walk.conditions a.walk.first a.levels a.state s a.events

-- the values, after a Found
abbrev pub layout_when : Bool → List ℤ → Option (List ℤ)
layout_when false l = None
layout_when true l = Some l

-- what is true of each search. Without a list of events no memory is ever wanted
pub record IsSound (k : ℕ) (keeps : Bool) (cs : List Cond) (number n : ℕ) (p : Position) (found : Bool) (over : Option Step) (some_found began_empty : Bool) (events : List Event) : Type 0 where
  pub well : IsWell k p
  pub state : IsState k p.first
  pub count : over ≡ None → p.walked ≤ n
  pub objects : length p.first ≡ number
  pub fits : All (λ c. FitsIn c p.first) cs
  pub ready : over ≡ None → IsReady cs p found
  pub memory : over ≡ Some Memory → keeps ≡ true
  pub last : over ≢ Some Found
  pub named : (order : Order) × NamesEach k p.first order × (p.variables ≡ variables_in order)
  pub some : found ≡ true → some_found ≡ true
  pub derives : keeps ≡ true → began_empty ≡ true → some_found ≡ false → p.token ≡ None → Derives cs p over events
