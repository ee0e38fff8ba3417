-- Rules whose evaluation, from the left and no further than it has to go, meets only numbers that fit 128 bits: every subexpression,
-- and what a sum or a product has given after each of its steps. An equivalence evaluates both its sides. A quantifier may look at
-- each of its candidates that is there.
use Rattle.std.specs.Prelude.{ℕ, ◌≡◌, ◌<◌, true, false, List, [], length, ℤ, ◌+ℤ◌, neg_ℤ, All}
use Rattle.std.specs.Int.RustNames.{FitsSigned}
use Rattle.std.specs.Int.{w128}
use Rattle.problem_data.specs.Problem.{ProblemData}
use Rattle.problem_data.specs.Tuple.{Tuple}
use Rattle.problem_data.specs.Truth.{is_there}
use Rattle.rule_expand.specs.Plain.{PlainExprTree, number, field, shape_number, negative, sum, product, least, greatest, PlainSumTree, plus, minus, PlainSums, no_sums, a_sum, PlainProductTree, times, over, modulo, PlainProducts, no_products, a_product, PlainFormulaTree, truth, falsehood, negation, all_of, any_of, implication, equivalence, comparison, quantified, PlainFormulas, no_formulas, a_formula}
use Rattle.rule_expand.specs.PlainTruth.{PlainEnv, set_variable, plain_value, plain_sum, plain_product, plain_candidates, plain_holds}
use Rattle.rule_expand.specs.Rules as rules
use Rattle.rule_expand.specs.Rules.{PlainDemand, PlainRuleData}
use Rattle.rule_values.specs.Elements.{element_at}

abbrev mutual
  pub IsTame : ProblemData → Tuple → PlainExprTree → PlainEnv → Type 0
  IsTame p t (number n) env = Unit {0}
  IsTame p t (field s f) env = Unit {0}
  IsTame p t (shape_number s) env = Unit {0}
  IsTame p t (negative e) env = IsTame p t e env × FitsSigned w128 (neg_ℤ (plain_value p t e env))
  IsTame p t (sum e steps) env = IsTame p t e env × AreTameSums p t steps env (plain_value p t e env)
  IsTame p t (product e steps) env = IsTame p t e env × AreTameProducts p t steps env (plain_value p t e env)
  IsTame p t (least a b) env = IsTame p t a env × IsTame p t b env
  IsTame p t (greatest a b) env = IsTame p t a env × IsTame p t b env

  -- of a step alone
  pub IsTameSum : ProblemData → Tuple → PlainSumTree → PlainEnv → Type 0
  IsTameSum p t (plus e) env = IsTame p t e env
  IsTameSum p t (minus e) env = IsTame p t e env

  -- of the steps that are left, with what those before them gave
  pub AreTameSums : ProblemData → Tuple → PlainSums → PlainEnv → ℤ → Type 0
  AreTameSums p t no_sums env z = Unit {0}
  AreTameSums p t (a_sum s rest) env z = IsTameSum p t s env × FitsSigned w128 (z +ℤ plain_sum p t s env) × AreTameSums p t rest env (z +ℤ plain_sum p t s env)

  pub IsTameProduct : ProblemData → Tuple → PlainProductTree → PlainEnv → Type 0
  IsTameProduct p t (times e) env = IsTame p t e env
  IsTameProduct p t (over n) env = Unit {0}
  IsTameProduct p t (modulo n) env = Unit {0}

  pub AreTameProducts : ProblemData → Tuple → PlainProducts → PlainEnv → ℤ → Type 0
  AreTameProducts p t no_products env z = Unit {0}
  AreTameProducts p t (a_product s rest) env z = IsTameProduct p t s env × FitsSigned w128 (plain_product p t z s env) × AreTameProducts p t rest env (plain_product p t z s env)

abbrev mutual
  pub IsCalm : ProblemData → Tuple → PlainFormulaTree → PlainEnv → Type 0
  IsCalm p t truth env = Unit {0}
  IsCalm p t falsehood env = Unit {0}
  IsCalm p t (negation f) env = IsCalm p t f env
  IsCalm p t (all_of fs) env = AllCalm p t fs env
  IsCalm p t (any_of fs) env = SomeCalm p t fs env
  IsCalm p t (implication f g) env = IsCalm p t f env × (plain_holds p t f env ≡ true → IsCalm p t g env)
  IsCalm p t (equivalence f g) env = IsCalm p t f env × IsCalm p t g env
  IsCalm p t (comparison a rel b) env = IsTame p t a env × IsTame p t b env
  IsCalm p t (quantified kind v coll f) env =
      (i : ℕ) → i < length (plain_candidates p t coll env) → is_there p t (element_at (plain_candidates p t coll env) i) ≡ true →
      IsCalm p t f (set_variable v (element_at (plain_candidates p t coll env) i) env)

  -- the formulas behind one that fails are not looked at
  pub AllCalm : ProblemData → Tuple → PlainFormulas → PlainEnv → Type 0
  AllCalm p t no_formulas env = Unit {0}
  AllCalm p t (a_formula f rest) env = IsCalm p t f env × (plain_holds p t f env ≡ true → AllCalm p t rest env)

  -- the formulas behind one that holds are not looked at
  pub SomeCalm : ProblemData → Tuple → PlainFormulas → PlainEnv → Type 0
  SomeCalm p t no_formulas env = Unit {0}
  SomeCalm p t (a_formula f rest) env = IsCalm p t f env × (plain_holds p t f env ≡ false → SomeCalm p t rest env)

-- of a rule that is a formula
abbrev pub IsCalmDemand : ProblemData → Tuple → PlainDemand → Type 0
IsCalmDemand p t rules.apart = Unit {0}
IsCalmDemand p t (rules.within ranges) = Unit {0}
IsCalmDemand p t (rules.plain f) = IsCalm p t f []

-- of each rule
abbrev pub AreCalm : ProblemData → Tuple → List PlainRuleData → Type 0
AreCalm p t rs = All (λ (r : PlainRuleData). IsCalmDemand p t r.demand) rs
