-- Formulas and expressions are spelled the same without places.
use Rattle.std.proofs.Common.{◌≡◌, List, [], ◌∷◌, ◌++◌, map, refl}
use Rattle.geo_tokens.specs.declared.token.Keyword.{Keyword}
use Rattle.geo_tokens.specs.declared.token.Keyword.TheVariants as keywords
use Rattle.geo_tokens.specs.declared.token.Sym.TheVariants as syms
use Rattle.rule_syntax.specs.declared.tree.PlacedName.{PlacedName}
use Rattle.rule_syntax.specs.Tree.{ExprTree, number, field, param, shape_number, negative, sum, product, least, greatest, value_call, SumTree, plus, minus, SumTrees, no_sums, a_sum, ProductTree, times, over, modulo, ProductTrees, no_products, a_product, ArgumentTree, argument, ArgumentTrees, no_arguments, an_argument, CollTree, all_objects, listed, boxes_of, FormulaTree, truth, falsehood, negation, all_of, any_of, implication, equivalence, comparison, quantified, formula_call, FormulaTrees, no_formulas, a_formula}
use Rattle.rule_print.specs.declared.rank.ExprRank.{ExprRank}
use Rattle.rule_print.specs.declared.rank.ExprRank.TheVariants as ranks
use Rattle.rule_print.specs.declared.rank.FormulaRank.{FormulaRank}
use Rattle.rule_print.specs.declared.rank.FormulaRank.TheVariants as kinds
use Rattle.rule_print.specs.Canonical.{name, word, symbol}
use Rattle.rule_print.specs.Spelled.{in_parens, in_brackets, in_list, expr_spelling, sum_spelling, sum_step_spelling, product_spelling, product_step_spelling, argument_spelling, arguments_spelling, more_arguments_spelling, rel_symbol, quantifier_spelling, more_names_spelling, names_spelling, coll_spelling, formula_spelling, operands_spelling, more_operands_spelling, bare_name, bare_expr, bare_sums, bare_sum, bare_products, bare_product, bare_argument, bare_arguments, bare_coll, bare_formula, bare_formulas}

mutual
  pub expr_same : (r : ExprRank) (e : ExprTree) → expr_spelling r (bare_expr e) ≡ expr_spelling r e
  expr_same r (number p n) = refl
  expr_same r (field a p b) = refl
  expr_same r (param a) = refl
  expr_same r (shape_number p a) = refl
  expr_same r (negative p e) = λ i. symbol syms.Minus ∷ expr_same ranks.Factor e i
  expr_same r (sum p e ss) = λ i. in_parens ranks.Sum r (expr_same ranks.Product e i ++ sums_same ss i)
  expr_same r (product p e ss) = λ i. in_parens ranks.Product r (expr_same ranks.Factor e i ++ products_same ss i)
  expr_same r (least p a b) = λ i. word keywords.Min ∷ in_list (expr_same ranks.Sum a i ++ symbol syms.Comma ∷ expr_same ranks.Sum b i)
  expr_same r (greatest p a b) = λ i. word keywords.Max ∷ in_list (expr_same ranks.Sum a i ++ symbol syms.Comma ∷ expr_same ranks.Sum b i)
  expr_same r (value_call p a es) = λ i. symbol syms.Dollar ∷ name a.name ∷ in_list (arguments_same es i)

  sums_same : (ss : SumTrees) → sum_spelling (bare_sums ss) ≡ sum_spelling ss
  sums_same no_sums = refl
  sums_same (a_sum s ss) = λ i. sum_same s i ++ sums_same ss i

  sum_same : (s : SumTree) → sum_step_spelling (bare_sum s) ≡ sum_step_spelling s
  sum_same (plus e) = λ i. symbol syms.Plus ∷ expr_same ranks.Product e i
  sum_same (minus e) = λ i. symbol syms.Minus ∷ expr_same ranks.Product e i

  products_same : (ss : ProductTrees) → product_spelling (bare_products ss) ≡ product_spelling ss
  products_same no_products = refl
  products_same (a_product s ss) = λ i. product_same s i ++ products_same ss i

  product_same : (s : ProductTree) → product_step_spelling (bare_product s) ≡ product_step_spelling s
  product_same (times e) = λ i. symbol syms.Star ∷ expr_same ranks.Factor e i
  product_same (over p n) = refl
  product_same (modulo p n) = refl

  argument_same : (a : ArgumentTree) → argument_spelling (bare_argument a) ≡ argument_spelling a
  argument_same (argument p e) = expr_same ranks.Sum e

  arguments_same : (es : ArgumentTrees) → arguments_spelling (bare_arguments es) ≡ arguments_spelling es
  arguments_same no_arguments = refl
  arguments_same (an_argument a others) = λ i. argument_same a i ++ more_arguments_same others i

  more_arguments_same : (es : ArgumentTrees) → more_arguments_spelling (bare_arguments es) ≡ more_arguments_spelling es
  more_arguments_same no_arguments = refl
  more_arguments_same (an_argument a others) = λ i. symbol syms.Comma ∷ (argument_same a i ++ more_arguments_same others i)

more_names_same : (ns : List PlacedName) → more_names_spelling (map bare_name ns) ≡ more_names_spelling ns
more_names_same [] = refl
more_names_same (n ∷ ns) = λ i. symbol syms.Comma ∷ name n.name ∷ more_names_same ns i

names_same : (ns : List PlacedName) → names_spelling (map bare_name ns) ≡ names_spelling ns
names_same [] = refl
names_same (n ∷ ns) = λ i. name n.name ∷ more_names_same ns i

coll_same : (c : CollTree) → coll_spelling (bare_coll c) ≡ coll_spelling c
coll_same all_objects = refl
coll_same (listed ns) = λ i. word keywords.Objects ∷ in_list (names_same ns i)
coll_same (boxes_of a) = refl

mutual
  pub formula_same : (r : FormulaRank) (f : FormulaTree) → formula_spelling r (bare_formula f) ≡ formula_spelling r f
  formula_same r (truth p) = refl
  formula_same r (falsehood p) = refl
  formula_same r (negation p f) = λ i. word keywords.Not ∷ formula_same kinds.Unary f i
  formula_same r (all_of p fs) = λ i. in_brackets kinds.Conjunction r (operands_same keywords.And kinds.Unary fs i)
  formula_same r (any_of p fs) = λ i. in_brackets kinds.Disjunction r (operands_same keywords.Or kinds.Conjunction fs i)
  formula_same r (implication p f g) = λ i. in_brackets kinds.Implication r (formula_same kinds.Disjunction f i ++ word keywords.Implies ∷ formula_same kinds.Disjunction g i)
  formula_same r (equivalence p f g) = λ i. in_brackets kinds.Equivalence r (formula_same kinds.Implication f i ++ word keywords.Iff ∷ formula_same kinds.Implication g i)
  formula_same r (comparison p a rel b) = λ i. expr_same ranks.Sum a i ++ symbol (rel_symbol rel) ∷ expr_same ranks.Sum b i
  formula_same r (quantified p k v c f) = λ i. quantifier_spelling k ++ name v.name ∷ word keywords.In ∷ (coll_same c i ++ symbol syms.Colon ∷ formula_same kinds.Unary f i)
  formula_same r (formula_call p a es) = λ i. symbol syms.At ∷ name a.name ∷ in_list (arguments_same es i)

  operands_same : (mark : Keyword) (r : FormulaRank) (fs : FormulaTrees) → operands_spelling mark r (bare_formulas fs) ≡ operands_spelling mark r fs
  operands_same mark r no_formulas = refl
  operands_same mark r (a_formula f fs) = λ i. formula_same r f i ++ more_operands_same mark r fs i

  more_operands_same : (mark : Keyword) (r : FormulaRank) (fs : FormulaTrees) → more_operands_spelling mark r (bare_formulas fs) ≡ more_operands_spelling mark r fs
  more_operands_same mark r no_formulas = refl
  more_operands_same mark r (a_formula f fs) = λ i. word mark ∷ (formula_same r f i ++ more_operands_same mark r fs i)
