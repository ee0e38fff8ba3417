-- What a derivation behind a problem is to show.
use Rattle.std.specs.Prelude.{◌≤◌, ◌-◌, ◌++◌, ◌-ℤ◌, ℕ, ℤ, pos, List}
use Rattle.geo_base.specs.Tuple.{Tuple}
use Rattle.problem_data.specs.Problem.{ProblemData}
use Rattle.problem_data.specs.Layouts.{IsLayout}
use Rattle.linear_conditions.specs.CondTree.{CondTree}
use Rattle.rule_ground.specs.Ground.{conditions}
use Rattle.layout_search.specs.FirstLayout.{HasNoLayout}
use Rattle.extent_caps.specs.Extents.{EndsBy, caps}

-- of which problems it can be asked, under which conditions the derivation is checked, and what is
-- so of the problem where it is valid
pub record Claim : Type 1 where
  pub asked : ProblemData → Type 0
  pub conditions : ProblemData → List CondTree
  pub none : ProblemData → Type 0

-- there is no layout
abbrev pub no_layout : Claim
no_layout = record { asked = λ p. Unit {0}; conditions = conditions; none = HasNoLayout }

-- no layout ends below e in the dimension d, counted from 1
abbrev pub EndsNoneBelow : ℕ → ℤ → ProblemData → Type 0
EndsNoneBelow d e p = (u : Tuple) → IsLayout p u → EndsBy p u (d - 1) (e -ℤ pos 1) → ⊥

-- the same as a claim: its conditions are those of the problem, and behind them the caps below e
abbrev pub none_below : ℕ → ℤ → Claim
none_below d e = record {
  asked = λ p. d ≤ p.dims;
  conditions = λ p. conditions p ++ caps p (d - 1) (e -ℤ pos 1);
  none = EndsNoneBelow d e;
}
