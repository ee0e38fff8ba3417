-- No semicolon stands in what is spelled of formulas and expressions, so none stands in the texts
-- of macros and rules.
use Rattle.std.proofs.Common.{List, [], ◌∷◌, ◌++◌, Bool, true, false}
use Rattle.geo_tokens.specs.declared.token.Keyword.{Keyword}
use Rattle.geo_tokens.specs.declared.token.Keyword.TheVariants as keywords
use Rattle.geo_tokens.specs.declared.token.Sym.TheVariants as syms
use Rattle.rule_syntax.specs.declared.tree.PlacedName.{PlacedName}
use Rattle.rule_syntax.specs.declared.tree.Rel.{Rel}
use Rattle.rule_syntax.specs.declared.tree.Rel.TheVariants.{Lt, Le, Eq, Ne, Ge, Gt}
use Rattle.rule_syntax.specs.declared.tree.QuantKind.{QuantKind}
use Rattle.rule_syntax.specs.declared.tree.QuantKind.TheVariants.{ForAll, Exists, AtLeast, AtMost}
use Rattle.rule_syntax.specs.Tree.{ExprTree, number, field, param, shape_number, negative, sum, product, least, greatest, value_call, SumTree, plus, minus, SumTrees, no_sums, a_sum, ProductTree, times, over, modulo, ProductTrees, no_products, a_product, ArgumentTree, argument, ArgumentTrees, no_arguments, an_argument, CollTree, all_objects, listed, boxes_of, FormulaTree, truth, falsehood, negation, all_of, any_of, implication, equivalence, comparison, quantified, formula_call, FormulaTrees, no_formulas, a_formula}
use Rattle.rule_print.specs.declared.rank.ExprRank.{ExprRank}
use Rattle.rule_print.specs.declared.rank.ExprRank.TheVariants as ranks
use Rattle.rule_print.specs.declared.rank.FormulaRank.{FormulaRank}
use Rattle.rule_print.specs.declared.rank.FormulaRank.TheVariants as kinds
use Rattle.rule_print.specs.Canonical.{Written, name, word, symbol}
use Rattle.std.specs.Prelude.{nat_lt}
use Rattle.rule_print.specs.Spelled.{bracketed, expr_level, formula_level, in_list, expr_spelling, sum_spelling, sum_step_spelling, product_spelling, product_step_spelling, argument_spelling, arguments_spelling, more_arguments_spelling, rel_symbol, quantifier_spelling, more_names_spelling, names_spelling, coll_spelling, formula_spelling, operands_spelling, more_operands_spelling}

-- it is no semicolon
abbrev pub IsInner : Written → Type 0
IsInner (symbol syms.Semicolon) = ⊥
IsInner _ = Unit {0}

abbrev pub AreInner : List Written → Type 0
AreInner [] = Unit {0}
AreInner (p ∷ ps) = IsInner p × AreInner ps

pub both : (ps qs : List Written) → AreInner ps → AreInner qs → AreInner (ps ++ qs)
both [] qs h g = g
both (p ∷ ps) qs h g = (h.0, both ps qs h.1 g)

pub in_list_inner : (ps : List Written) → AreInner ps → AreInner (in_list ps)
in_list_inner ps h = (tt, both ps (symbol syms.ParenClose ∷ []) h (tt, tt))

parens_inner : (b : Bool) (ps : List Written) → AreInner ps → AreInner (bracketed b syms.ParenOpen syms.ParenClose ps)
parens_inner true ps h = (tt, both ps (symbol syms.ParenClose ∷ []) h (tt, tt))
parens_inner false ps h = h

brackets_inner : (b : Bool) (ps : List Written) → AreInner ps → AreInner (bracketed b syms.BracketOpen syms.BracketClose ps)
brackets_inner true ps h = (tt, both ps (symbol syms.BracketClose ∷ []) h (tt, tt))
brackets_inner false ps h = h

-- ---- expressions

mutual
  pub expr_inner : (r : ExprRank) (e : ExprTree) → AreInner (expr_spelling r e)
  expr_inner r (number p n) = (tt, tt)
  expr_inner r (field a p b) = (tt, (tt, (tt, tt)))
  expr_inner r (param a) = (tt, tt)
  expr_inner r (shape_number p a) = (tt, (tt, tt))
  expr_inner r (negative p e) = (tt, expr_inner ranks.Factor e)
  expr_inner r (sum p e ss) = parens_inner (nat_lt (expr_level ranks.Sum) (expr_level r)) (expr_spelling ranks.Product e ++ sum_spelling ss) (both (expr_spelling ranks.Product e) (sum_spelling ss) (expr_inner ranks.Product e) (sums_inner ss))
  expr_inner r (product p e ss) = parens_inner (nat_lt (expr_level ranks.Product) (expr_level r)) (expr_spelling ranks.Factor e ++ product_spelling ss) (both (expr_spelling ranks.Factor e) (product_spelling ss) (expr_inner ranks.Factor e) (products_inner ss))
  expr_inner r (least p a b) = (tt, in_list_inner (expr_spelling ranks.Sum a ++ symbol syms.Comma ∷ expr_spelling ranks.Sum b) (both (expr_spelling ranks.Sum a) (symbol syms.Comma ∷ expr_spelling ranks.Sum b) (expr_inner ranks.Sum a) (tt, expr_inner ranks.Sum b)))
  expr_inner r (greatest p a b) = (tt, in_list_inner (expr_spelling ranks.Sum a ++ symbol syms.Comma ∷ expr_spelling ranks.Sum b) (both (expr_spelling ranks.Sum a) (symbol syms.Comma ∷ expr_spelling ranks.Sum b) (expr_inner ranks.Sum a) (tt, expr_inner ranks.Sum b)))
  expr_inner r (value_call p a es) = (tt, (tt, in_list_inner (arguments_spelling es) (arguments_inner es)))

  sums_inner : (ss : SumTrees) → AreInner (sum_spelling ss)
  sums_inner no_sums = tt
  sums_inner (a_sum s ss) = both (sum_step_spelling s) (sum_spelling ss) (sum_inner s) (sums_inner ss)

  sum_inner : (s : SumTree) → AreInner (sum_step_spelling s)
  sum_inner (plus e) = (tt, expr_inner ranks.Product e)
  sum_inner (minus e) = (tt, expr_inner ranks.Product e)

  products_inner : (ss : ProductTrees) → AreInner (product_spelling ss)
  products_inner no_products = tt
  products_inner (a_product s ss) = both (product_step_spelling s) (product_spelling ss) (product_inner s) (products_inner ss)

  product_inner : (s : ProductTree) → AreInner (product_step_spelling s)
  product_inner (times e) = (tt, expr_inner ranks.Factor e)
  product_inner (over p n) = (tt, (tt, tt))
  product_inner (modulo p n) = (tt, (tt, tt))

  argument_inner : (a : ArgumentTree) → AreInner (argument_spelling a)
  argument_inner (argument p e) = expr_inner ranks.Sum e

  arguments_inner : (es : ArgumentTrees) → AreInner (arguments_spelling es)
  arguments_inner no_arguments = tt
  arguments_inner (an_argument a others) = both (argument_spelling a) (more_arguments_spelling others) (argument_inner a) (more_arguments_inner others)

  more_arguments_inner : (es : ArgumentTrees) → AreInner (more_arguments_spelling es)
  more_arguments_inner no_arguments = tt
  more_arguments_inner (an_argument a others) = (tt, both (argument_spelling a) (more_arguments_spelling others) (argument_inner a) (more_arguments_inner others))

-- ---- formulas

more_names_inner : (ns : List PlacedName) → AreInner (more_names_spelling ns)
more_names_inner [] = tt
more_names_inner (n ∷ ns) = (tt, (tt, more_names_inner ns))

names_inner : (ns : List PlacedName) → AreInner (names_spelling ns)
names_inner [] = tt
names_inner (n ∷ ns) = (tt, more_names_inner ns)

coll_inner : (c : CollTree) → AreInner (coll_spelling c)
coll_inner all_objects = (tt, tt)
coll_inner (listed ns) = (tt, in_list_inner (names_spelling ns) (names_inner ns))
coll_inner (boxes_of a) = (tt, (tt, (tt, tt)))

rel_inner : (r : Rel) → IsInner (symbol (rel_symbol r))
rel_inner Lt = tt
rel_inner Le = tt
rel_inner Eq = tt
rel_inner Ne = tt
rel_inner Ge = tt
rel_inner Gt = tt

quantifier_inner : (k : QuantKind) → AreInner (quantifier_spelling k)
quantifier_inner ForAll = (tt, tt)
quantifier_inner Exists = (tt, tt)
quantifier_inner (AtLeast n) = (tt, (tt, tt))
quantifier_inner (AtMost n) = (tt, (tt, tt))

mutual
  pub formula_inner : (r : FormulaRank) (f : FormulaTree) → AreInner (formula_spelling r f)
  formula_inner r (truth p) = (tt, tt)
  formula_inner r (falsehood p) = (tt, tt)
  formula_inner r (negation p f) = (tt, formula_inner kinds.Unary f)
  formula_inner r (all_of p fs) = brackets_inner (nat_lt (formula_level kinds.Conjunction) (formula_level r)) (operands_spelling keywords.And kinds.Unary fs) (operands_inner keywords.And kinds.Unary fs)
  formula_inner r (any_of p fs) = brackets_inner (nat_lt (formula_level kinds.Disjunction) (formula_level r)) (operands_spelling keywords.Or kinds.Conjunction fs) (operands_inner keywords.Or kinds.Conjunction fs)
  formula_inner r (implication p f g) =
      brackets_inner (nat_lt (formula_level kinds.Implication) (formula_level r)) (formula_spelling kinds.Disjunction f ++ word keywords.Implies ∷ formula_spelling kinds.Disjunction g)
      (both (formula_spelling kinds.Disjunction f) (word keywords.Implies ∷ formula_spelling kinds.Disjunction g) (formula_inner kinds.Disjunction f) (tt, formula_inner kinds.Disjunction g))
  formula_inner r (equivalence p f g) =
      brackets_inner (nat_lt (formula_level kinds.Equivalence) (formula_level r)) (formula_spelling kinds.Implication f ++ word keywords.Iff ∷ formula_spelling kinds.Implication g)
      (both (formula_spelling kinds.Implication f) (word keywords.Iff ∷ formula_spelling kinds.Implication g) (formula_inner kinds.Implication f) (tt, formula_inner kinds.Implication g))
  formula_inner r (comparison p a rel b) = both (expr_spelling ranks.Sum a) (symbol (rel_symbol rel) ∷ expr_spelling ranks.Sum b) (expr_inner ranks.Sum a) (rel_inner rel, expr_inner ranks.Sum b)
  formula_inner r (quantified p k v c f) =
      both (quantifier_spelling k) (name v.name ∷ word keywords.In ∷ (coll_spelling c ++ symbol syms.Colon ∷ formula_spelling kinds.Unary f)) (quantifier_inner k)
      (tt, (tt, both (coll_spelling c) (symbol syms.Colon ∷ formula_spelling kinds.Unary f) (coll_inner c) (tt, formula_inner kinds.Unary f)))
  formula_inner r (formula_call p a es) = (tt, (tt, in_list_inner (arguments_spelling es) (arguments_inner es)))

  operands_inner : (mark : Keyword) (r : FormulaRank) (fs : FormulaTrees) → AreInner (operands_spelling mark r fs)
  operands_inner mark r no_formulas = tt
  operands_inner mark r (a_formula f fs) = both (formula_spelling r f) (more_operands_spelling mark r fs) (formula_inner r f) (more_operands_inner mark r fs)

  more_operands_inner : (mark : Keyword) (r : FormulaRank) (fs : FormulaTrees) → AreInner (more_operands_spelling mark r fs)
  more_operands_inner mark r no_formulas = tt
  more_operands_inner mark r (a_formula f fs) = (tt, both (formula_spelling r f) (more_operands_spelling mark r fs) (formula_inner r f) (more_operands_inner mark r fs))
