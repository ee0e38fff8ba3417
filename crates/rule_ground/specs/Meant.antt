-- What the conditions of a problem mean, in whichever list they stand.
use Rattle.std.specs.Prelude.{◌≡◌, ◌↔◌, ◌≤◌, List, length, map, None}
use Rattle.geo_base.specs.Tuple.{Tuple}
use Rattle.geo_conditions.specs.declared.cond.Cond.{Cond}
use Rattle.geo_conditions.specs.Conditions.{AllFit, AllHold}
use Rattle.problem_data.specs.Problem.{ProblemData}
use Rattle.problem_data.specs.Cells.{IsWideTuple}
use Rattle.problem_data.specs.Layouts.{IsLayout}
use Rattle.rule_expand.specs.Rules.{expansion_fault}
use Rattle.linear_conditions.specs.CondTree.{cond_view}
use Rattle.rule_ground.specs.Ground.{conditions, ground_fault, most_conditions}
use Rattle.rule_ground.specs.Start.{first_state}

-- each condition names objects and dimensions of the problem, there are few, and on each wide tuple
-- all of them are true exactly where it is a layout
pub record MeanLayouts (p : ProblemData) (cs : List Cond) : Type 0 where
  pub fit : AllFit cs (first_state p)
  pub few : length cs ≤ most_conditions
  pub meaning : (t : Tuple) → IsWideTuple p t → AllHold cs t ↔ IsLayout p t

-- without a fault, each list with the trees of the problem's conditions means its layouts
abbrev pub ConditionsAreMeant : ProblemData → Type 0
ConditionsAreMeant p = expansion_fault p ≡ None → ground_fault p ≡ None → (cs : List Cond) → map cond_view cs ≡ conditions p → MeanLayouts p cs
