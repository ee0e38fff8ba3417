-- How formulas and expressions are spelled canonically: with brackets exactly where the grammar needs them.
use Rattle.std.specs.Prelude.{◌≡◌, ℕ, List, [], ◌∷◌, ◌++◌, length, map, Bool, true, false, nat_lt, if◌then◌else◌}
use Rattle.geo_tokens.specs.declared.token.Token.{Token}
use Rattle.geo_tokens.specs.declared.token.Keyword.{Keyword}
use Rattle.geo_tokens.specs.declared.token.Keyword.TheVariants as keywords
use Rattle.geo_tokens.specs.declared.token.Sym.{Sym}
use Rattle.geo_tokens.specs.declared.token.Sym.TheVariants as syms
use Rattle.geo_tokens.specs.Words.{Lang}
use Rattle.geo_tokens.specs.Cut.{IsTokens}
use Rattle.rule_syntax.specs.declared.tree.PlacedName.{PlacedName}
use Rattle.rule_syntax.specs.declared.tree.Rel.{Rel}
use Rattle.rule_syntax.specs.declared.tree.Rel.TheVariants.{Lt, Le, Eq, Ne, Ge, Gt}
use Rattle.rule_syntax.specs.declared.tree.QuantKind.{QuantKind}
use Rattle.rule_syntax.specs.declared.tree.QuantKind.TheVariants.{ForAll, Exists, AtLeast, AtMost}
use Rattle.rule_print.specs.declared.rank.ExprRank.{ExprRank}
use Rattle.rule_print.specs.declared.rank.ExprRank.TheVariants as ranks
use Rattle.rule_print.specs.declared.rank.FormulaRank.{FormulaRank}
use Rattle.rule_print.specs.declared.rank.FormulaRank.TheVariants as kinds
use Rattle.rule_syntax.specs.Tree.{ExprTree, number, field, param, shape_number, negative, sum, product, least, greatest, value_call, SumTree, plus, minus, SumTrees, no_sums, a_sum, ProductTree, times, over, modulo, ProductTrees, no_products, a_product, ArgumentTree, argument, ArgumentTrees, no_arguments, an_argument, CollTree, all_objects, listed, boxes_of, FormulaTree, truth, falsehood, negation, all_of, any_of, implication, equivalence, comparison, quantified, formula_call, FormulaTrees, no_formulas, a_formula}
use Rattle.rule_reading.specs.Outcome.{HasValue}
use Rattle.rule_print.specs.Canonical.{Written, name, word, symbol, shown}
use Rattle.rule_print.specs.Canonical.{number as digits}

-- a mark between two parts, and none before the first one
abbrev pub mark_before : Bool → Keyword → List Written
mark_before true mark = []
mark_before false mark = word mark ∷ []

-- ---- brackets

-- how close a rank binds: a sum least, then a product, then a factor
abbrev pub expr_level : ExprRank → ℕ
expr_level ranks.Sum = 0
expr_level ranks.Product = 1
expr_level ranks.Factor = 2

-- an equivalence least, then an implication, a disjunction, a conjunction, and a unary
abbrev pub formula_level : FormulaRank → ℕ
formula_level kinds.Equivalence = 0
formula_level kinds.Implication = 1
formula_level kinds.Disjunction = 2
formula_level kinds.Conjunction = 3
formula_level kinds.Unary = 4

abbrev pub bracketed : Bool → Sym → Sym → List Written → List Written
bracketed needed open_mark close_mark ps = if needed then symbol open_mark ∷ (ps ++ symbol close_mark ∷ []) else ps

-- A chain of this rank where one of the rank r may stand: in brackets where it binds less than that.
abbrev pub in_parens : ExprRank → ExprRank → List Written → List Written
in_parens own r ps = bracketed (nat_lt (expr_level own) (expr_level r)) syms.ParenOpen syms.ParenClose ps

abbrev pub in_brackets : FormulaRank → FormulaRank → List Written → List Written
in_brackets own r ps = bracketed (nat_lt (formula_level own) (formula_level r)) syms.BracketOpen syms.BracketClose ps

-- a list in brackets
abbrev pub in_list : List Written → List Written
in_list ps = symbol syms.ParenOpen ∷ (ps ++ symbol syms.ParenClose ∷ [])

-- ---- expressions

abbrev mutual
  -- an expression, where one of the rank r may stand
  pub expr_spelling : ExprRank → ExprTree → List Written
  expr_spelling r (number p n) = digits n ∷ []
  expr_spelling r (field a p b) = name a.name ∷ symbol syms.Dot ∷ name b.name ∷ []
  expr_spelling r (param a) = name a.name ∷ []
  expr_spelling r (shape_number p a) = word keywords.Shape ∷ name a.name ∷ []
  expr_spelling r (negative p e) = symbol syms.Minus ∷ expr_spelling ranks.Factor e
  expr_spelling r (sum p e ss) = in_parens ranks.Sum r (expr_spelling ranks.Product e ++ sum_spelling ss)
  expr_spelling r (product p e ss) = in_parens ranks.Product r (expr_spelling ranks.Factor e ++ product_spelling ss)
  expr_spelling r (least p a b) = word keywords.Min ∷ in_list (expr_spelling ranks.Sum a ++ symbol syms.Comma ∷ expr_spelling ranks.Sum b)
  expr_spelling r (greatest p a b) = word keywords.Max ∷ in_list (expr_spelling ranks.Sum a ++ symbol syms.Comma ∷ expr_spelling ranks.Sum b)
  expr_spelling r (value_call p a es) = symbol syms.Dollar ∷ name a.name ∷ in_list (arguments_spelling es)

  -- the steps of a sum behind its first term
  pub sum_spelling : SumTrees → List Written
  sum_spelling no_sums = []
  sum_spelling (a_sum s ss) = sum_step_spelling s ++ sum_spelling ss

  pub sum_step_spelling : SumTree → List Written
  sum_step_spelling (plus e) = symbol syms.Plus ∷ expr_spelling ranks.Product e
  sum_step_spelling (minus e) = symbol syms.Minus ∷ expr_spelling ranks.Product e

  -- the steps of a product behind its first factor
  pub product_spelling : ProductTrees → List Written
  product_spelling no_products = []
  product_spelling (a_product s ss) = product_step_spelling s ++ product_spelling ss

  pub product_step_spelling : ProductTree → List Written
  product_step_spelling (times e) = symbol syms.Star ∷ expr_spelling ranks.Factor e
  product_step_spelling (over p n) = word keywords.Div ∷ digits n ∷ []
  product_step_spelling (modulo p n) = word keywords.Mod ∷ digits n ∷ []

  pub argument_spelling : ArgumentTree → List Written
  argument_spelling (argument p e) = expr_spelling ranks.Sum e

  -- arguments with commas between them
  pub arguments_spelling : ArgumentTrees → List Written
  arguments_spelling no_arguments = []
  arguments_spelling (an_argument a others) = argument_spelling a ++ more_arguments_spelling others

  pub more_arguments_spelling : ArgumentTrees → List Written
  more_arguments_spelling no_arguments = []
  more_arguments_spelling (an_argument a others) = symbol syms.Comma ∷ (argument_spelling a ++ more_arguments_spelling others)

-- ---- formulas

abbrev pub rel_symbol : Rel → Sym
rel_symbol Lt = syms.Less
rel_symbol Le = syms.LessEqual
rel_symbol Eq = syms.Equal
rel_symbol Ne = syms.NotEqual
rel_symbol Ge = syms.GreaterEqual
rel_symbol Gt = syms.Greater

abbrev pub quantifier_spelling : QuantKind → List Written
quantifier_spelling ForAll = word keywords.ForAll ∷ []
quantifier_spelling Exists = word keywords.Exists ∷ []
quantifier_spelling (AtLeast n) = word keywords.AtLeast ∷ digits n ∷ []
quantifier_spelling (AtMost n) = word keywords.AtMost ∷ digits n ∷ []

-- names, each behind a comma
abbrev pub more_names_spelling : List PlacedName → List Written
more_names_spelling [] = []
more_names_spelling (a ∷ others) = symbol syms.Comma ∷ name a.name ∷ more_names_spelling others

-- names with commas between them
abbrev pub names_spelling : List PlacedName → List Written
names_spelling [] = []
names_spelling (a ∷ others) = name a.name ∷ more_names_spelling others

abbrev pub coll_spelling : CollTree → List Written
coll_spelling all_objects = word keywords.Objects ∷ []
coll_spelling (listed ns) = word keywords.Objects ∷ in_list (names_spelling ns)
coll_spelling (boxes_of a) = word keywords.Boxes ∷ word keywords.Of ∷ name a.name ∷ []

abbrev mutual
  -- a formula, where one of the rank r may stand
  pub formula_spelling : FormulaRank → FormulaTree → List Written
  formula_spelling r (truth p) = word keywords.True ∷ []
  formula_spelling r (falsehood p) = word keywords.False ∷ []
  formula_spelling r (negation p f) = word keywords.Not ∷ formula_spelling kinds.Unary f
  formula_spelling r (all_of p fs) = in_brackets kinds.Conjunction r (operands_spelling keywords.And kinds.Unary fs)
  formula_spelling r (any_of p fs) = in_brackets kinds.Disjunction r (operands_spelling keywords.Or kinds.Conjunction fs)
  formula_spelling r (implication p f g) = in_brackets kinds.Implication r (formula_spelling kinds.Disjunction f ++ word keywords.Implies ∷ formula_spelling kinds.Disjunction g)
  formula_spelling r (equivalence p f g) = in_brackets kinds.Equivalence r (formula_spelling kinds.Implication f ++ word keywords.Iff ∷ formula_spelling kinds.Implication g)
  formula_spelling r (comparison p a rel b) = expr_spelling ranks.Sum a ++ symbol (rel_symbol rel) ∷ expr_spelling ranks.Sum b
  formula_spelling r (quantified p k v c f) = quantifier_spelling k ++ name v.name ∷ word keywords.In ∷ (coll_spelling c ++ symbol syms.Colon ∷ formula_spelling kinds.Unary f)
  formula_spelling r (formula_call p a es) = symbol syms.At ∷ name a.name ∷ in_list (arguments_spelling es)

  -- operands of the rank r with this word between them
  pub operands_spelling : Keyword → FormulaRank → FormulaTrees → List Written
  operands_spelling mark r no_formulas = []
  operands_spelling mark r (a_formula f fs) = formula_spelling r f ++ more_operands_spelling mark r fs

  pub more_operands_spelling : Keyword → FormulaRank → FormulaTrees → List Written
  more_operands_spelling mark r no_formulas = []
  more_operands_spelling mark r (a_formula f fs) = word mark ∷ (formula_spelling r f ++ more_operands_spelling mark r fs)

-- the canonical texts
abbrev pub expr_text : ExprTree → List ℕ
expr_text e = shown (expr_spelling ranks.Sum e)

abbrev pub formula_text : FormulaTree → List ℕ
formula_text f = shown (formula_spelling kinds.Equivalence f)

-- ---- trees without places

abbrev pub bare_name : PlacedName → PlacedName
bare_name a = record { place = 0; name = a.name }

abbrev mutual
  pub bare_expr : ExprTree → ExprTree
  bare_expr (number p n) = number 0 n
  bare_expr (field a p b) = field (bare_name a) 0 (bare_name b)
  bare_expr (param a) = param (bare_name a)
  bare_expr (shape_number p a) = shape_number 0 (bare_name a)
  bare_expr (negative p e) = negative 0 (bare_expr e)
  bare_expr (sum p e ss) = sum 0 (bare_expr e) (bare_sums ss)
  bare_expr (product p e ss) = product 0 (bare_expr e) (bare_products ss)
  bare_expr (least p a b) = least 0 (bare_expr a) (bare_expr b)
  bare_expr (greatest p a b) = greatest 0 (bare_expr a) (bare_expr b)
  bare_expr (value_call p a es) = value_call 0 (bare_name a) (bare_arguments es)

  pub bare_sums : SumTrees → SumTrees
  bare_sums no_sums = no_sums
  bare_sums (a_sum s ss) = a_sum (bare_sum s) (bare_sums ss)

  pub bare_sum : SumTree → SumTree
  bare_sum (plus e) = plus (bare_expr e)
  bare_sum (minus e) = minus (bare_expr e)

  pub bare_products : ProductTrees → ProductTrees
  bare_products no_products = no_products
  bare_products (a_product s ss) = a_product (bare_product s) (bare_products ss)

  pub bare_product : ProductTree → ProductTree
  bare_product (times e) = times (bare_expr e)
  bare_product (over p n) = over 0 n
  bare_product (modulo p n) = modulo 0 n

  pub bare_argument : ArgumentTree → ArgumentTree
  bare_argument (argument p e) = argument 0 (bare_expr e)

  pub bare_arguments : ArgumentTrees → ArgumentTrees
  bare_arguments no_arguments = no_arguments
  bare_arguments (an_argument a others) = an_argument (bare_argument a) (bare_arguments others)

abbrev pub bare_coll : CollTree → CollTree
bare_coll all_objects = all_objects
bare_coll (listed ns) = listed (map bare_name ns)
bare_coll (boxes_of a) = boxes_of (bare_name a)

abbrev mutual
  pub bare_formula : FormulaTree → FormulaTree
  bare_formula (truth p) = truth 0
  bare_formula (falsehood p) = falsehood 0
  bare_formula (negation p f) = negation 0 (bare_formula f)
  bare_formula (all_of p fs) = all_of 0 (bare_formulas fs)
  bare_formula (any_of p fs) = any_of 0 (bare_formulas fs)
  bare_formula (implication p f g) = implication 0 (bare_formula f) (bare_formula g)
  bare_formula (equivalence p f g) = equivalence 0 (bare_formula f) (bare_formula g)
  bare_formula (comparison p a r b) = comparison 0 (bare_expr a) r (bare_expr b)
  bare_formula (quantified p k v c f) = quantified 0 k (bare_name v) (bare_coll c) (bare_formula f)
  bare_formula (formula_call p a es) = formula_call 0 (bare_name a) (bare_arguments es)

  pub bare_formulas : FormulaTrees → FormulaTrees
  bare_formulas no_formulas = no_formulas
  bare_formulas (a_formula f fs) = a_formula (bare_formula f) (bare_formulas fs)

-- ---- reading back

-- reading gives the value from some tokens of some text, with at most 64 levels
abbrev pub IsRead : {A : Type 0} → (List ℕ → ℕ → Lang A) → A → Type 0
IsRead L a = (text : List ℕ) × (list : List Token) × (from : ℕ) × (next : ℕ) × IsTokens text list × HasValue (L text) 64 list from a next

-- the whole text is read, with nothing left, and what reading gives is the value but for places
abbrev pub ReadsBack : {A : Type 0} → (List ℕ → ℕ → Lang A) → (A → A) → List ℕ → A → Type 0
ReadsBack {A} L bare text a = (list : List Token) × (b : A) × IsTokens text list × HasValue (L text) 64 list 0 b (length list) × (bare b ≡ bare a)
