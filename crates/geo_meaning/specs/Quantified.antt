-- The body of a quantifier, for one element and for all candidates that are there.
use Rattle.std.specs.Prelude.{◌≡◌, ℕ, ◌<◌, Bool, true, List, length}
use Rattle.problem_data.specs.Problem.{ProblemData}
use Rattle.problem_data.specs.Truth.{is_there}
use Rattle.problem_data.specs.Tuple.{Tuple}
use Rattle.problem_data.specs.Value.{Thing}
use Rattle.rule_expand.specs.Plain.{PlainFormulaTree}
use Rattle.rule_expand.specs.PlainTruth.{PlainEnv, plain_holds, set_variable}
use Rattle.rule_values.specs.Calm.{IsCalm}
use Rattle.rule_values.specs.Elements.{element_at}

-- the formula holds where the variable stands for the thing
abbrev pub holds_for : ProblemData → Tuple → PlainFormulaTree → ℕ → PlainEnv → Thing → Bool
holds_for p t f v env x = plain_holds p t f (set_variable v x env)

-- its evaluation is calm for each candidate that is there
abbrev pub AreCalm : ProblemData → Tuple → PlainFormulaTree → ℕ → List Thing → PlainEnv → Type 0
AreCalm p t f v xs env =
    (i : ℕ) → i < length xs → is_there p t (element_at xs i) ≡ true →
    IsCalm p t f (set_variable v (element_at xs i) env)
