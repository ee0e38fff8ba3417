-- Lists of conditions that are caps, and what they mean.
use Rattle.std.specs.Prelude.{◌≡◌, ◌↔◌, ◌≤◌, ◌≤ℤ◌, ℕ, ℤ, pos, negsuc, List, ◌++◌, length, map}
use Rattle.geo_conditions.specs.declared.cond.Cond.{Cond}
use Rattle.geo_conditions.specs.Conditions.{AllFit, AllHold}
use Rattle.problem_data.specs.Problem.{ProblemData}
use Rattle.problem_data.specs.Tuple.{Tuple}
use Rattle.problem_data.specs.Cells.{IsWideTuple}
use Rattle.linear_conditions.specs.CondTree.{CondTree, cond_view}
use Rattle.rule_ground.specs.Start.{first_state}
use Rattle.extent_caps.specs.Extents.{EndsBy, caps}

-- a number at which boxes may end, or just below all of these
abbrev pub IsCapEnd : ℤ → Type 0
IsCapEnd e = (negsuc 2000000 ≤ℤ e) × (e ≤ℤ pos 3000000)

-- a number at which a box of a wide tuple may end
abbrev pub IsReachable : ℤ → Type 0
IsReachable e = (negsuc 1999998 ≤ℤ e) × (e ≤ℤ pos 3000000)

-- how many caps there are at most: of 200 objects with 16 places of 16 boxes
abbrev pub most_caps : ℕ
most_caps = 51200

-- the conditions are the caps at e: they name objects and dimensions of the problem, there are few,
-- and on each wide tuple all of them are true exactly where no box ends beyond e
pub record AreCaps (p : ProblemData) (d : ℕ) (e : ℤ) (cs : List Cond) : Type 0 where
  pub trees : map cond_view cs ≡ caps p d e
  pub fit : AllFit cs (first_state p)
  pub few : length cs ≤ most_caps
  pub meaning : (t : Tuple) → IsWideTuple p t → AllHold cs t ↔ EndsBy p t d e

-- the new list is the old one, and behind it conditions with these trees
pub record Adds (trees : List CondTree) (old new : List Cond) : Type 0 where
  pub added : List Cond
  pub behind : new ≡ old ++ added
  pub stand_for : map cond_view added ≡ trees

-- the new list is the old one, and behind it the caps at e
pub record AddsCaps (p : ProblemData) (d : ℕ) (e : ℤ) (old new : List Cond) : Type 0 where
  pub added : List Cond
  pub behind : new ≡ old ++ added
  pub are : AreCaps p d e added
