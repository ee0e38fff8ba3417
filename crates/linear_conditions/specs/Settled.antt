-- The shapes that an expression asks for, and tuples that have the fixed shapes.
use Rattle.std.specs.Prelude.{◌≡◌, ◌≢◌, ℕ, ◌==◌, ◌&&◌, ◌||◌, Bool, true, false, not, List, codes}
use Rattle.std.specs.Str.{bytes_eq}
use Rattle.problem_data.specs.Problem.{ProblemData}
use Rattle.problem_data.specs.Tuple.{Tuple, spot_of, shape_of}
use Rattle.problem_data.specs.Value.{Thing, Number, Object, Part}
use Rattle.rule_expand.specs.declared.plain.Subject.{Subject}
use Rattle.rule_expand.specs.declared.plain.Subject.TheVariants as subjects
use Rattle.rule_expand.specs.Plain.{PlainExprTree, number, field, shape_number, negative, sum, product, least, greatest, PlainSumTree, plus, minus, PlainSums, no_sums, a_sum, PlainProductTree, times, over, modulo, PlainProducts, no_products, a_product}
use Rattle.rule_expand.specs.PlainTruth.{PlainEnv, subject_in}
use Rattle.linear_conditions.specs.Fixings.{Fixing, fixed_place, place_of}
use Rattle.rule_values.specs.Shapes.{shape_at}

abbrev pub same_subject : Subject → Subject → Bool
same_subject (subjects.Variable m) (subjects.Variable n) = m == n
same_subject (subjects.Variable m) (subjects.Object o) = false
same_subject (subjects.Object o) (subjects.Variable n) = false
same_subject (subjects.Object o) (subjects.Object u) = o == u

-- the field that is the number of the shape
abbrev pub is_sid : List ℕ → Bool
is_sid n = bytes_eq n (codes "sid")

abbrev mutual
  -- whether the shape's number of s stands in an expression
  pub expr_needs : Subject → PlainExprTree → Bool
  expr_needs s (number n) = false
  expr_needs s (field u f) = same_subject s u && is_sid f
  expr_needs s (shape_number n) = false
  expr_needs s (negative e) = expr_needs s e
  expr_needs s (sum e steps) = expr_needs s e || sums_need s steps
  expr_needs s (product e steps) = expr_needs s e || products_need s steps
  expr_needs s (least a b) = expr_needs s a || expr_needs s b
  expr_needs s (greatest a b) = expr_needs s a || expr_needs s b

  pub sum_needs : Subject → PlainSumTree → Bool
  sum_needs s (plus e) = expr_needs s e
  sum_needs s (minus e) = expr_needs s e

  pub sums_need : Subject → PlainSums → Bool
  sums_need s no_sums = false
  sums_need s (a_sum u rest) = sum_needs s u || sums_need s rest

  pub product_needs : Subject → PlainProductTree → Bool
  product_needs s (times e) = expr_needs s e
  product_needs s (over n) = false
  product_needs s (modulo n) = false

  pub products_need : Subject → PlainProducts → Bool
  products_need s no_products = false
  products_need s (a_product u rest) = product_needs s u || products_need s rest

-- each fixed object has its fixed place
pub record Agrees (t : Tuple) (fix : List Fixing) : Type 0 where
  pub at : (o : ℕ) → fixed_place fix o ≢ 0 → (spot_of t o).place ≡ fixed_place fix o

-- the shape that is taken for an object is the one that it has
abbrev pub IsSettled : ProblemData → Tuple → List Fixing → Thing → Type 0
IsSettled p t fix (Number z) = Unit {0}
IsSettled p t fix (Object o) = shape_of p t o ≡ shape_at p o (place_of fix o)
IsSettled p t fix (Part b) = Unit {0}

-- the shape of each object that is asked for is settled
pub record IsCovered (p : ProblemData) (t : Tuple) (fix : List Fixing) (env : PlainEnv) (asks : Subject → Bool) : Type 0 where
  pub at : (s : Subject) → asks s ≡ true → IsSettled p t fix (subject_in s env)

-- a truth under a sign: true for plus
abbrev pub signed : Bool → Bool → Bool
signed true b = b
signed false b = not b
