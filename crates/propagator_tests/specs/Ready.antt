-- What is known of a problem that was read, and of its rules without macros.
use Rattle.std.specs.Prelude.{◌≡◌, List, None}
use Rattle.geo_base.specs.Tuple.{Tuple}
use Rattle.problem_data.specs.Cells.{IsTuple}
use Rattle.problem_data.specs.Problem.{ProblemData}
use Rattle.problem_data.specs.WellFormed.{IsWellFormed}
use Rattle.rule_expand.specs.Rules.{AllAskSame, PlainRuleData, expansion_fault, rules_expanded}
use Rattle.rule_values.specs.Calm.{AreCalm}

-- these are the rules of the problem without macros, and they can be judged on each of its tuples
pub record IsReady (p : ProblemData) (rules : List PlainRuleData) : Type 0 where
  pub formed : IsWellFormed p
  pub expands : expansion_fault p ≡ None
  pub plain : rules ≡ rules_expanded p
  pub asks : (t : Tuple) → AllAskSame p t p.rules rules
  pub calm : (t : Tuple) → IsTuple p t → AreCalm p t rules
