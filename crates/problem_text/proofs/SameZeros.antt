-- Taking places away leaves as many divisors that are 0.
use Rattle.std.proofs.Common.{◌≡◌, ℕ, ◌+◌, ◌<◌, List, [], ◌∷◌, ◌++◌, length, Bool, true, false, ◌==◌, refl, sym, ap, ◌∙◌, length-append, arith}
use Rattle.std.specs.Prelude.{if◌then◌else◌}
use Rattle.std.specs.List.{Contains}
use Rattle.rule_syntax.specs.Tree.{ExprTree, number, field, param, shape_number, negative, sum, product, least, greatest, value_call, SumTree, plus, minus, SumTrees, no_sums, a_sum, ProductTree, times, over, modulo, ProductTrees, no_products, a_product, ArgumentTree, argument, ArgumentTrees, no_arguments, an_argument, FormulaTree, truth, falsehood, negation, all_of, any_of, implication, equivalence, comparison, quantified, formula_call, FormulaTrees, no_formulas, a_formula}
use Rattle.rule_print.specs.Spelled.{bare_expr, bare_sums, bare_sum, bare_products, bare_product, bare_argument, bare_arguments, bare_formula, bare_formulas}
use Rattle.problem_data.specs.Tree.{BodyTree, means, equals}
use Rattle.problem_data.specs.Divisors.{expr_zeros, sums_zeros, sum_zeros, products_zeros, product_zeros, arguments_zeros, argument_zeros, formula_zeros, formulas_zeros, body_zeros}
use Rattle.problem_text.proofs.PrintingParts.{bare_body}

-- two lists, one after the other
both_long : (ks ms ls ns : List ℕ) → length ks ≡ length ls → length ms ≡ length ns → length (ks ++ ms) ≡ length (ls ++ ns)
both_long ks ms ls ns e g = length-append ks ms ∙ (λ i. e i + g i) ∙ sym (length-append ls ns)

one_zero : (b : Bool) (p q : ℕ) → length (if b then p ∷ [] else []) ≡ length (if b then q ∷ [] else [])
one_zero true p q = refl
one_zero false p q = refl

mutual
  pub expr_count : (e : ExprTree) → length (expr_zeros (bare_expr e)) ≡ length (expr_zeros e)
  expr_count (number p n) = refl
  expr_count (field a d b) = refl
  expr_count (param a) = refl
  expr_count (shape_number p a) = refl
  expr_count (negative p e) = expr_count e
  expr_count (sum p e ss) = both_long (expr_zeros (bare_expr e)) (sums_zeros (bare_sums ss)) (expr_zeros e) (sums_zeros ss) (expr_count e) (sums_count ss)
  expr_count (product p e ss) = both_long (expr_zeros (bare_expr e)) (products_zeros (bare_products ss)) (expr_zeros e) (products_zeros ss) (expr_count e) (products_count ss)
  expr_count (least p a b) = both_long (expr_zeros (bare_expr a)) (expr_zeros (bare_expr b)) (expr_zeros a) (expr_zeros b) (expr_count a) (expr_count b)
  expr_count (greatest p a b) = both_long (expr_zeros (bare_expr a)) (expr_zeros (bare_expr b)) (expr_zeros a) (expr_zeros b) (expr_count a) (expr_count b)
  expr_count (value_call p a es) = arguments_count es

  pub sums_count : (ss : SumTrees) → length (sums_zeros (bare_sums ss)) ≡ length (sums_zeros ss)
  sums_count no_sums = refl
  sums_count (a_sum s ss) = both_long (sum_zeros (bare_sum s)) (sums_zeros (bare_sums ss)) (sum_zeros s) (sums_zeros ss) (sum_count s) (sums_count ss)

  pub sum_count : (s : SumTree) → length (sum_zeros (bare_sum s)) ≡ length (sum_zeros s)
  sum_count (plus e) = expr_count e
  sum_count (minus e) = expr_count e

  pub products_count : (ss : ProductTrees) → length (products_zeros (bare_products ss)) ≡ length (products_zeros ss)
  products_count no_products = refl
  products_count (a_product s ss) = both_long (product_zeros (bare_product s)) (products_zeros (bare_products ss)) (product_zeros s) (products_zeros ss) (product_count s) (products_count ss)

  pub product_count : (s : ProductTree) → length (product_zeros (bare_product s)) ≡ length (product_zeros s)
  product_count (times e) = expr_count e
  product_count (over p n) = one_zero (n == 0) 0 p
  product_count (modulo p n) = one_zero (n == 0) 0 p

  pub arguments_count : (es : ArgumentTrees) → length (arguments_zeros (bare_arguments es)) ≡ length (arguments_zeros es)
  arguments_count no_arguments = refl
  arguments_count (an_argument a others) = both_long (argument_zeros (bare_argument a)) (arguments_zeros (bare_arguments others)) (argument_zeros a) (arguments_zeros others) (argument_count a) (arguments_count others)

  pub argument_count : (a : ArgumentTree) → length (argument_zeros (bare_argument a)) ≡ length (argument_zeros a)
  argument_count (argument p e) = expr_count e

mutual
  pub formula_count : (f : FormulaTree) → length (formula_zeros (bare_formula f)) ≡ length (formula_zeros f)
  formula_count (truth p) = refl
  formula_count (falsehood p) = refl
  formula_count (negation p f) = formula_count f
  formula_count (all_of p fs) = formulas_count fs
  formula_count (any_of p fs) = formulas_count fs
  formula_count (implication p f g) = both_long (formula_zeros (bare_formula f)) (formula_zeros (bare_formula g)) (formula_zeros f) (formula_zeros g) (formula_count f) (formula_count g)
  formula_count (equivalence p f g) = both_long (formula_zeros (bare_formula f)) (formula_zeros (bare_formula g)) (formula_zeros f) (formula_zeros g) (formula_count f) (formula_count g)
  formula_count (comparison p a r b) = both_long (expr_zeros (bare_expr a)) (expr_zeros (bare_expr b)) (expr_zeros a) (expr_zeros b) (expr_count a) (expr_count b)
  formula_count (quantified p k v c f) = formula_count f
  formula_count (formula_call p a es) = arguments_count es

  pub formulas_count : (fs : FormulaTrees) → length (formulas_zeros (bare_formulas fs)) ≡ length (formulas_zeros fs)
  formulas_count no_formulas = refl
  formulas_count (a_formula f fs) = both_long (formula_zeros (bare_formula f)) (formulas_zeros (bare_formulas fs)) (formula_zeros f) (formulas_zeros fs) (formula_count f) (formulas_count fs)

body_count : (b : BodyTree) → length (body_zeros (bare_body b)) ≡ length (body_zeros b)
body_count (means f) = formula_count f
body_count (equals e) = expr_count e

-- bodies that are the same but for places have as many
pub bodies_count : (b c : BodyTree) → bare_body b ≡ bare_body c → length (body_zeros b) ≡ length (body_zeros c)
bodies_count b c e = sym (body_count b) ∙ ap (λ (x : BodyTree). length (body_zeros x)) e ∙ body_count c

pub formulas_alike : (f g : FormulaTree) → bare_formula f ≡ bare_formula g → length (formula_zeros f) ≡ length (formula_zeros g)
formulas_alike f g e = sym (formula_count f) ∙ ap (λ (x : FormulaTree). length (formula_zeros x)) e ∙ formula_count g

-- a list as long as one that has something has something
pub one_there : (ms ns : List ℕ) (m : ℕ) → length ms ≡ length ns → Contains ms m → (n : ℕ) × Contains ns n
one_there ms [] m e c = (let lt : c.0 < length ms = c.1 in absurd (omega arith))
one_there ms (n ∷ ns) m e c = (n, (0, (let some : 0 < length (n ∷ ns) = omega arith in some), refl))
