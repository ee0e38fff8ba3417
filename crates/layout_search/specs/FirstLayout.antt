-- The first layout of a problem, and the listing of its walk.
use Rattle.std.specs.Prelude.{◌≡◌, ◌⊎◌, ◌↔◌, ◌≤◌, ◌^◌, ℕ, ℤ, Bool, true, false, List, [], ◌∷◌, length, Option, None}
use Rattle.std.specs.Option.{option_map}
use Rattle.geo_base.specs.Tuple.{Tuple}
use Rattle.geo_conditions.specs.declared.cond.Cond.{Cond}
use Rattle.geo_conditions.specs.Conditions.{AllFit, AllHold}
use Rattle.geo_conditions.specs.Walk.{Tree, values, IsListing, More, End}
use Rattle.geo_conditions.specs.Walk as walk
use Rattle.problem_data.specs.Problem.{ProblemData}
use Rattle.problem_data.specs.Cells.{IsWideTuple}
use Rattle.problem_data.specs.Layouts.{IsLayout}
use Rattle.rule_ground.specs.Order.{variables_for, ComesBefore}
use Rattle.rule_ground.specs.Start.{first_state}
use Rattle.derivation.specs.declared.event.Event.{Event}
use Rattle.whole_derivation.specs.Whole.{IsDerivation}
use Rattle.layout_search.specs.declared.first.Outcome.{Outcome}
use Rattle.layout_search.specs.declared.first.Outcome.TheVariants.{Found, Nothing, OutOfBudget}

-- each condition names objects and dimensions of the problem, and on each tuple of the problem's
-- hulls all are true exactly where it is a layout
pub record AreConditionsOf (p : ProblemData) (cs : List Cond) : Type 0 where
  pub fit : AllFit cs (first_state p)
  pub meaning : (t : Tuple) → IsWideTuple p t → AllHold cs t ↔ IsLayout p t

-- the walk of a problem under conditions, past the values of a tuple where they are given
abbrev pub walk_past : ProblemData → List Cond → Option (List ℤ) → Tree
walk_past p cs past = record { conditions = cs; first = first_state p; variables = variables_for p; after = past }

-- the same after a tuple where one is given
abbrev pub walk_after : ProblemData → List Cond → Option Tuple → Tree
walk_after p cs after = walk_past p cs (option_map (values (variables_for p)) after)

-- the whole walk
abbrev pub walk_of : ProblemData → List Cond → Tree
walk_of p cs = walk_after p cs None

-- a layout that comes before every other one
pub record IsFirstLayout (p : ProblemData) (t : Tuple) : Type 0 where
  pub layout : IsLayout p t
  pub first : (u : Tuple) → IsLayout p u → (u ≡ t) ⊎ ComesBefore p t u

abbrev pub HasNoLayout : ProblemData → Type 0
HasNoLayout p = (t : Tuple) → IsLayout p t → ⊥

-- a tuple of the problem's hulls on which every condition is true, and which comes before every
-- other one
pub record IsFirstSolution (p : ProblemData) (cs : List Cond) (t : Tuple) : Type 0 where
  pub tuple : IsWideTuple p t
  pub holds : AllHold cs t
  pub first : (u : Tuple) → IsWideTuple p u → AllHold cs u → (u ≡ t) ⊎ ComesBefore p t u

abbrev pub HasNoSolution : ProblemData → List Cond → Type 0
HasNoSolution p cs = (t : Tuple) → IsWideTuple p t → AllHold cs t → ⊥

-- the listing of one layout among the first n members of the walk: its full member, and the word
-- that ends it
abbrev pub Lists : {R : Type 0} → ProblemData → List Cond → ℕ → Outcome R → Type 0
Lists p cs n (Found t) = IsListing (walk_of p cs) 1 n (values (variables_for p) t ∷ []) More
Lists p cs n (Nothing r) = IsListing (walk_of p cs) 1 n [] End
Lists p cs n OutOfBudget = IsListing (walk_of p cs) 1 n [] walk.OutOfBudget

-- the layout that is found is the first one; where nothing is found, there is none
abbrev pub Finds : {R : Type 0} → ProblemData → Outcome R → Type 0
Finds p (Found t) = IsFirstLayout p t
Finds p (Nothing r) = HasNoLayout p
Finds p OutOfBudget = Unit {0}

-- the same of any conditions
abbrev pub FindsSolution : {R : Type 0} → ProblemData → List Cond → Outcome R → Type 0
FindsSolution p cs (Found t) = IsFirstSolution p cs t
FindsSolution p cs (Nothing r) = HasNoSolution p cs
FindsSolution p cs OutOfBudget = Unit {0}

-- the walk goes on past the budget
abbrev pub is_spent : {R : Type 0} → Outcome R → Bool
is_spent (Found t) = false
is_spent (Nothing r) = false
is_spent OutOfBudget = true

-- the same outcome with another record
abbrev pub with_record : {Q R : Type 0} → Outcome Q → R → Outcome R
with_record (Found t) r = Found t
with_record (Nothing _) r = Nothing r
with_record OutOfBudget r = OutOfBudget

-- where nothing is found, the events that the recorder kept are a derivation, which is valid on the
-- first state; and there are at most as many conditions as the numbers of a derivation can name
abbrev pub Derives : {R : Type 0} → ProblemData → List Cond → (R → List Event) → Outcome R → Type 0
Derives p cs list (Found t) = Unit {0}
Derives p cs list (Nothing r) = IsDerivation cs (first_state p) (list r) × (length cs ≤ 10 ^ 9)
Derives p cs list OutOfBudget = Unit {0}
