-- What does not name a variable.
use Rattle.std.specs.Prelude.{◌≡◌, ℕ, List}
use Rattle.problem_data.specs.Problem.{ProblemData}
use Rattle.problem_data.specs.Value.{Thing}
use Rattle.rule_expand.specs.Plain.{PlainExprTree}
use Rattle.rule_expand.specs.PlainTruth.{PlainEnv, set_variable}
use Rattle.linear_conditions.specs.Fixings.{Fixing}
use Rattle.linear_conditions.specs.Forms.{sum_of_expr, fits_expr}

-- an expression has one form, whatever the variable stands for
pub record IsSteady (v : ℕ) (e : PlainExprTree) : Type 0 where
  pub sum_same : (p : ProblemData) (x : Thing) (env : PlainEnv) (fix : List Fixing) → sum_of_expr p e (set_variable v x env) fix ≡ sum_of_expr p e env fix
  pub fits_same : (p : ProblemData) (x : Thing) (env : PlainEnv) (fix : List Fixing) → fits_expr p e (set_variable v x env) fix ≡ fits_expr p e env fix
