-- The meaning of a rule without macros on a tuple, by the same cases as that of the rule as it is written.
use Rattle.std.specs.Prelude.{ℕ, ◌+◌, ◌==◌, ◌&&◌, ◌||◌, not, Bool, true, false, if◌then◌else◌, List, [], ◌∷◌, map, length, ℤ, pos, ◌+ℤ◌, ◌*ℤ◌, neg_ℤ}
use Rattle.std.specs.List.{filter, range_with_len}
use Rattle.std.specs.Int.{int_min, int_max, int_div_euclid, int_rem_euclid}
use Rattle.problem_data.specs.Problem.{ProblemData}
use Rattle.problem_data.specs.Tuple.{Tuple}
use Rattle.problem_data.specs.Value.{Thing, Number, Object, field_value}
use Rattle.problem_data.specs.Truth.{compare, same_truth, quantify, boxes_of_thing, is_there}
use Rattle.rule_expand.specs.declared.plain.Subject.{Subject}
use Rattle.rule_expand.specs.declared.plain.Subject.TheVariants as subjects
use Rattle.rule_expand.specs.Plain.{PlainExprTree, number, field, shape_number, negative, sum, product, least, greatest, PlainSumTree, plus, minus, PlainSums, no_sums, a_sum, PlainProductTree, times, over, modulo, PlainProducts, no_products, a_product, PlainCollTree, all_objects, listed, boxes_of, PlainFormulaTree, truth, falsehood, negation, all_of, any_of, implication, equivalence, comparison, quantified, PlainFormulas, no_formulas, a_formula}

-- variables in sight by their numbers, the innermost first
pub record Numbered : Type 0 where
  pub variable : ℕ
  pub thing : Thing

abbrev pub PlainEnv : Type 0
PlainEnv = List Numbered

abbrev pub set_variable : ℕ → Thing → PlainEnv → PlainEnv
set_variable v x env = record { variable = v; thing = x } ∷ env

abbrev pub variable_in : ℕ → PlainEnv → Thing
variable_in v [] = Number (pos 0)
variable_in v (b ∷ outer) = if v == b.variable then b.thing else variable_in v outer

abbrev pub subject_in : Subject → PlainEnv → Thing
subject_in (subjects.Variable v) env = variable_in v env
subject_in (subjects.Object o) env = Object o

abbrev mutual
  pub plain_value : ProblemData → Tuple → PlainExprTree → PlainEnv → ℤ
  plain_value p t (number n) env = pos n
  plain_value p t (field s f) env = field_value p t (subject_in s env) f
  plain_value p t (shape_number s) env = pos (s + 1)
  plain_value p t (negative e) env = neg_ℤ (plain_value p t e env)
  plain_value p t (sum e steps) env = plain_value p t e env +ℤ plain_sums p t steps env
  plain_value p t (product e steps) env = plain_products p t (plain_value p t e env) steps env
  plain_value p t (least a b) env = int_min (plain_value p t a env) (plain_value p t b env)
  plain_value p t (greatest a b) env = int_max (plain_value p t a env) (plain_value p t b env)

  pub plain_sum : ProblemData → Tuple → PlainSumTree → PlainEnv → ℤ
  plain_sum p t (plus e) env = plain_value p t e env
  plain_sum p t (minus e) env = neg_ℤ (plain_value p t e env)

  pub plain_sums : ProblemData → Tuple → PlainSums → PlainEnv → ℤ
  plain_sums p t no_sums env = pos 0
  plain_sums p t (a_sum s rest) env = plain_sum p t s env +ℤ plain_sums p t rest env

  pub plain_product : ProblemData → Tuple → ℤ → PlainProductTree → PlainEnv → ℤ
  plain_product p t z (times e) env = z *ℤ plain_value p t e env
  plain_product p t z (over n) env = int_div_euclid z (pos n)
  plain_product p t z (modulo n) env = int_rem_euclid z (pos n)

  pub plain_products : ProblemData → Tuple → ℤ → PlainProducts → PlainEnv → ℤ
  plain_products p t z no_products env = z
  plain_products p t z (a_product s rest) env = plain_products p t (plain_product p t z s env) rest env

-- what a quantifier's variable could stand for
abbrev pub plain_candidates : ProblemData → Tuple → PlainCollTree → PlainEnv → List Thing
plain_candidates p t all_objects env = map Object (range_with_len 0 (length p.objects))
plain_candidates p t (listed os) env = map Object os
plain_candidates p t (boxes_of s) env = boxes_of_thing p t (subject_in s env)

-- the elements that it ranges over: those that are there
abbrev pub plain_elements : ProblemData → Tuple → PlainCollTree → PlainEnv → List Thing
plain_elements p t coll env = filter (is_there p t) (plain_candidates p t coll env)

abbrev mutual
  pub plain_holds : ProblemData → Tuple → PlainFormulaTree → PlainEnv → Bool
  plain_holds p t truth env = true
  plain_holds p t falsehood env = false
  plain_holds p t (negation f) env = not (plain_holds p t f env)
  plain_holds p t (all_of fs) env = plain_all p t fs env
  plain_holds p t (any_of fs) env = plain_some p t fs env
  plain_holds p t (implication f g) env = not (plain_holds p t f env) || plain_holds p t g env
  plain_holds p t (equivalence f g) env = same_truth (plain_holds p t f env) (plain_holds p t g env)
  plain_holds p t (comparison a rel b) env = compare rel (plain_value p t a env) (plain_value p t b env)
  plain_holds p t (quantified kind v coll f) env = quantify kind (λ x. plain_holds p t f (set_variable v x env)) (plain_elements p t coll env)

  pub plain_all : ProblemData → Tuple → PlainFormulas → PlainEnv → Bool
  plain_all p t no_formulas env = true
  plain_all p t (a_formula f rest) env = plain_holds p t f env && plain_all p t rest env

  pub plain_some : ProblemData → Tuple → PlainFormulas → PlainEnv → Bool
  plain_some p t no_formulas env = false
  plain_some p t (a_formula f rest) env = plain_holds p t f env || plain_some p t rest env
