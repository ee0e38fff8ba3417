-- A rule that stands before the macro that it calls.
use Rattle.std.proofs.Common.{ℕ, [], ◌∷◌, refl, arith}
use Rattle.std.specs.List.{Contains}
use Rattle.rule_syntax.specs.Tree.{truth, formula_call, no_arguments}
use Rattle.problem_data.specs.Problem.{plain, ProblemData}
use Rattle.problem_data.specs.Tree.{means}
use Rattle.rule_names.specs.declared.mistake.Mistake.{Mistake}
use Rattle.rule_names.specs.declared.mistake.Flaw.TheVariants.{UnknownName}
use Rattle.rule_names.specs.Mistakes.{mistake}
use Rattle.linear_conditions.specs.Counts.{and_then, allowed}
use Rattle.rule_ground.specs.Rules.{before_rest}
use Rattle.bare_rules.specs.Bare.{OrderMatters}

-- `macro a() means true;` and `rule a: @a();`, with the names at these places
abbrev stated : ℕ → ℕ → ProblemData
stated m n = record {
  version = 1;
  dims = 1;
  shapes = [];
  objects = [];
  macros = record { place = m; name = 97 ∷ []; params = []; body = means (truth 0) } ∷ [];
  rules = record { place = n; name = 97 ∷ []; demand = plain (formula_call 0 (record { place = 0; name = 97 ∷ [] }) no_arguments) } ∷ [];
  order = [];
  sides = [];
}

none : (m : Mistake) → Contains [] m → ⊥
none m c = (let l = c.1 in omega (arith, l))

pub order_matters : OrderMatters
unfolding before_rest and_then allowed
order_matters = (
  stated 2 1,
  stated 1 2,
  refl,
  record { names = none; expands = refl; grounds = refl },
  λ h. h.names (mistake 0 UnknownName) (0, omega arith, refl),
)
