-- What listings are of, as a statement.
use Rattle.std.specs.Prelude.{◌≡◌, ◌↔◌, true, ℕ, ℤ, List, map, AllPairs, All, Option, IfSome}
use Rattle.geo_base.specs.Tuple.{Tuple}
use Rattle.geo_conditions.specs.declared.cond.Cond.{Cond}
use Rattle.geo_conditions.specs.Walk.{EndWord, IsIn, is_full, values, IsListing}
use Rattle.layout_search.specs.FirstLayout.{AreConditionsOf, walk_after, walk_of}
use Rattle.layout_search.specs.Page.{IsPage, PassesNoneOver}
use Rattle.problem_data.specs.Problem.{ProblemData}
use Rattle.problem_data.specs.Layouts.{IsLayout}
use Rattle.problem_data.specs.WellFormed.{IsWellFormed}
use Rattle.rule_ground.specs.Order.{variables_for, ComesBefore}

-- the full members of the walk of a problem have the values of its layouts, and of no other tuple
abbrev pub FullMembersAreLayouts : ProblemData → List Cond → Type 0
FullMembersAreLayouts p cs = (q : List ℤ) → (IsIn (walk_of p cs) q × (is_full (walk_of p cs) q ≡ true)) ↔ ((t : Tuple) × IsLayout p t × (values (variables_for p) t ≡ q))

-- what a listing after a tuple holds are the values of layouts; they stand in the stated order, and
-- come after that tuple
abbrev pub ListsLayouts : ProblemData → List Cond → Type 0
ListsLayouts p cs = (after : Option Tuple) (most n : ℕ) (found : List (List ℤ)) (word : EndWord) → IsListing (walk_after p cs after) most n found word
    → (ts : List Tuple) × (map (values (variables_for p)) ts ≡ found) × All (IsLayout p) ts × AllPairs (ComesBefore p) ts × IfSome after (λ t. All (ComesBefore p t) ts)

abbrev pub ListingsAreOfLayouts : Type 0
ListingsAreOfLayouts = (p : ProblemData) (cs : List Cond) → IsWellFormed p → AreConditionsOf p cs → FullMembersAreLayouts p cs × ListsLayouts p cs

-- a page of a walk of the problem passes no layout over
abbrev pub PagesPassNoneOver : Type 0
PagesPassNoneOver = (p : ProblemData) (cs : List Cond) (after : Option Tuple) (most n : ℕ) (ts : List Tuple) (word : EndWord) → IsWellFormed p → AreConditionsOf p cs
    → IsPage p (walk_after p cs after) most n ts word → PassesNoneOver p after ts word
