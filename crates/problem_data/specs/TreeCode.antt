-- Trees as trees of numbers, and back: two trees with the same numbers are the same.
use Rattle.std.specs.Prelude.{◌≡◌, ℕ, ◌==◌, if◌then◌else◌, List, [], ◌∷◌, refl}
use Rattle.std.proofs.Common.{sym, ◌∙◌, ap}
use base.Stored.{Coded, Gv, gnil, gnum, gcons, num}
use Rattle.rule_syntax.specs.declared.tree.PlacedName.{PlacedName}
use Rattle.rule_syntax.specs.declared.tree.Rel.{Rel}
use Rattle.rule_syntax.specs.declared.tree.Rel.TheVariants as relations
use Rattle.rule_syntax.specs.declared.tree.QuantKind.{QuantKind}
use Rattle.rule_syntax.specs.declared.tree.QuantKind.TheVariants as kinds
use Rattle.rule_syntax.specs.Tree.{ExprTree, number, field, param, shape_number, negative, sum, product, least, greatest, value_call, SumTree, plus, minus, SumTrees, no_sums, a_sum, ProductTree, times, over, modulo, ProductTrees, no_products, a_product, ArgumentTree, argument, ArgumentTrees, no_arguments, an_argument, CollTree, all_objects, listed, boxes_of, FormulaTree, truth, falsehood, negation, all_of, any_of, implication, equivalence, comparison, quantified, formula_call, FormulaTrees, no_formulas, a_formula}

abbrev first : Gv → Gv
first gnil = gnil
first (gnum n) = gnil
first (gcons a b) = a

abbrev second : Gv → Gv
second gnil = gnil
second (gnum n) = gnil
second (gcons a b) = b

-- a node: which one it is, its place, and its two parts
abbrev node : ℕ → ℕ → Gv → Gv → Gv
node k p x y = gcons (gnum k) (gcons (gnum p) (gcons x y))

-- ---- names

abbrev bytes_code : List ℕ → Gv
bytes_code [] = gnil
bytes_code (n ∷ ns) = gcons (gnum n) (bytes_code ns)

abbrev bytes_back : Gv → List ℕ
bytes_back gnil = []
bytes_back (gnum n) = []
bytes_back (gcons a b) = num a ∷ bytes_back b

bytes_again : (ns : List ℕ) → bytes_back (bytes_code ns) ≡ ns
bytes_again [] = refl
bytes_again (n ∷ ns) = λ i. n ∷ bytes_again ns i

abbrev name_code : PlacedName → Gv
name_code a = gcons (gnum a.place) (bytes_code a.name)

abbrev name_back : Gv → PlacedName
name_back g = record { place = num (first g); name = bytes_back (second g) }

name_again : (a : PlacedName) → name_back (name_code a) ≡ a
name_again a = λ i. record { place = a.place; name = bytes_again a.name i }

abbrev names_code : List PlacedName → Gv
names_code [] = gnil
names_code (a ∷ others) = gcons (name_code a) (names_code others)

abbrev names_back : Gv → List PlacedName
names_back gnil = []
names_back (gnum n) = []
names_back (gcons a b) = name_back a ∷ names_back b

names_again : (ns : List PlacedName) → names_back (names_code ns) ≡ ns
names_again [] = refl
names_again (a ∷ others) = λ i. name_again a i ∷ names_again others i

-- ---- expressions

abbrev mutual
  pub expr_code : ExprTree → Gv
  expr_code (number p n) = node 0 p (gnum n) gnil
  expr_code (field a d b) = node 1 d (name_code a) (name_code b)
  expr_code (param a) = node 2 0 (name_code a) gnil
  expr_code (shape_number p a) = node 3 p (name_code a) gnil
  expr_code (negative p e) = node 4 p (expr_code e) gnil
  expr_code (sum p e ss) = node 5 p (expr_code e) (sums_code ss)
  expr_code (product p e ss) = node 6 p (expr_code e) (products_code ss)
  expr_code (least p a b) = node 7 p (expr_code a) (expr_code b)
  expr_code (greatest p a b) = node 8 p (expr_code a) (expr_code b)
  expr_code (value_call p a es) = node 9 p (name_code a) (arguments_code es)

  sums_code : SumTrees → Gv
  sums_code no_sums = gnil
  sums_code (a_sum s ss) = gcons (sum_code s) (sums_code ss)

  sum_code : SumTree → Gv
  sum_code (plus e) = gcons (gnum 0) (expr_code e)
  sum_code (minus e) = gcons (gnum 1) (expr_code e)

  products_code : ProductTrees → Gv
  products_code no_products = gnil
  products_code (a_product s ss) = gcons (product_code s) (products_code ss)

  product_code : ProductTree → Gv
  product_code (times e) = gcons (gnum 0) (gcons (expr_code e) gnil)
  product_code (over p n) = gcons (gnum 1) (gcons (gnum p) (gnum n))
  product_code (modulo p n) = gcons (gnum 2) (gcons (gnum p) (gnum n))

  arguments_code : ArgumentTrees → Gv
  arguments_code no_arguments = gnil
  arguments_code (an_argument a others) = gcons (argument_code a) (arguments_code others)

  argument_code : ArgumentTree → Gv
  argument_code (argument p e) = gcons (gnum p) (expr_code e)

abbrev expr_of : ℕ → ℕ → Gv → Gv → ExprTree → ExprTree → SumTrees → ProductTrees → ArgumentTrees → ExprTree
expr_of k p x y a b ss ps es =
    if k == 0 then number p (num x) else if k == 1 then field (name_back x) p (name_back y) else
    if k == 2 then param (name_back x) else if k == 3 then shape_number p (name_back x) else
    if k == 4 then negative p a else if k == 5 then sum p a ss else if k == 6 then product p a ps else
    if k == 7 then least p a b else if k == 8 then greatest p a b else value_call p (name_back x) es

abbrev mutual
  expr_back : Gv → ExprTree
  expr_back (gcons k (gcons p (gcons x y))) = expr_of (num k) (num p) x y (expr_back x) (expr_back y) (sums_back y) (products_back y) (arguments_back y)
  expr_back _ = number 0 0

  sums_back : Gv → SumTrees
  sums_back gnil = no_sums
  sums_back (gnum n) = no_sums
  sums_back (gcons a b) = a_sum (sum_back a) (sums_back b)

  sum_back : Gv → SumTree
  sum_back (gcons k e) = if num k == 0 then plus (expr_back e) else minus (expr_back e)
  sum_back _ = plus (number 0 0)

  products_back : Gv → ProductTrees
  products_back gnil = no_products
  products_back (gnum n) = no_products
  products_back (gcons a b) = a_product (product_back a) (products_back b)

  product_back : Gv → ProductTree
  product_back (gcons k (gcons x y)) = if num k == 0 then times (expr_back x) else if num k == 1 then over (num x) (num y) else modulo (num x) (num y)
  product_back _ = over 0 0

  arguments_back : Gv → ArgumentTrees
  arguments_back gnil = no_arguments
  arguments_back (gnum n) = no_arguments
  arguments_back (gcons a b) = an_argument (argument_back a) (arguments_back b)

  argument_back : Gv → ArgumentTree
  argument_back (gcons p e) = argument (num p) (expr_back e)
  argument_back _ = argument 0 (number 0 0)

mutual
  pub expr_again : (e : ExprTree) → expr_back (expr_code e) ≡ e
  expr_again (number p n) = refl
  expr_again (field a d b) = λ i. field (name_again a i) d (name_again b i)
  expr_again (param a) = λ i. param (name_again a i)
  expr_again (shape_number p a) = λ i. shape_number p (name_again a i)
  expr_again (negative p e) = λ i. negative p (expr_again e i)
  expr_again (sum p e ss) = λ i. sum p (expr_again e i) (sums_again ss i)
  expr_again (product p e ss) = λ i. product p (expr_again e i) (products_again ss i)
  expr_again (least p a b) = λ i. least p (expr_again a i) (expr_again b i)
  expr_again (greatest p a b) = λ i. greatest p (expr_again a i) (expr_again b i)
  expr_again (value_call p a es) = λ i. value_call p (name_again a i) (arguments_again es i)

  sums_again : (ss : SumTrees) → sums_back (sums_code ss) ≡ ss
  sums_again no_sums = refl
  sums_again (a_sum s ss) = λ i. a_sum (sum_again s i) (sums_again ss i)

  sum_again : (s : SumTree) → sum_back (sum_code s) ≡ s
  sum_again (plus e) = λ i. plus (expr_again e i)
  sum_again (minus e) = λ i. minus (expr_again e i)

  products_again : (ss : ProductTrees) → products_back (products_code ss) ≡ ss
  products_again no_products = refl
  products_again (a_product s ss) = λ i. a_product (product_again s i) (products_again ss i)

  product_again : (s : ProductTree) → product_back (product_code s) ≡ s
  product_again (times e) = λ i. times (expr_again e i)
  product_again (over p n) = refl
  product_again (modulo p n) = refl

  arguments_again : (es : ArgumentTrees) → arguments_back (arguments_code es) ≡ es
  arguments_again no_arguments = refl
  arguments_again (an_argument a others) = λ i. an_argument (argument_again a i) (arguments_again others i)

  argument_again : (a : ArgumentTree) → argument_back (argument_code a) ≡ a
  argument_again (argument p e) = λ i. argument p (expr_again e i)

-- ---- formulas

abbrev rel_code : Rel → ℕ
rel_code relations.Lt = 0
rel_code relations.Le = 1
rel_code relations.Eq = 2
rel_code relations.Ne = 3
rel_code relations.Ge = 4
rel_code relations.Gt = 5

abbrev rel_back : ℕ → Rel
rel_back k = if k == 0 then relations.Lt else if k == 1 then relations.Le else if k == 2 then relations.Eq else if k == 3 then relations.Ne else if k == 4 then relations.Ge else relations.Gt

rel_again : (r : Rel) → rel_back (rel_code r) ≡ r
rel_again relations.Lt = refl
rel_again relations.Le = refl
rel_again relations.Eq = refl
rel_again relations.Ne = refl
rel_again relations.Ge = refl
rel_again relations.Gt = refl

abbrev kind_code : QuantKind → Gv
kind_code kinds.ForAll = gcons (gnum 0) (gnum 0)
kind_code kinds.Exists = gcons (gnum 1) (gnum 0)
kind_code (kinds.AtLeast n) = gcons (gnum 2) (gnum n)
kind_code (kinds.AtMost n) = gcons (gnum 3) (gnum n)

abbrev kind_back : Gv → QuantKind
kind_back g = if num (first g) == 0 then kinds.ForAll else if num (first g) == 1 then kinds.Exists else if num (first g) == 2 then kinds.AtLeast (num (second g)) else kinds.AtMost (num (second g))

kind_again : (k : QuantKind) → kind_back (kind_code k) ≡ k
kind_again kinds.ForAll = refl
kind_again kinds.Exists = refl
kind_again (kinds.AtLeast n) = refl
kind_again (kinds.AtMost n) = refl

abbrev coll_code : CollTree → Gv
coll_code all_objects = gcons (gnum 0) gnil
coll_code (listed ns) = gcons (gnum 1) (names_code ns)
coll_code (boxes_of a) = gcons (gnum 2) (name_code a)

abbrev coll_back : Gv → CollTree
coll_back g = if num (first g) == 0 then all_objects else if num (first g) == 1 then listed (names_back (second g)) else boxes_of (name_back (second g))

coll_again : (c : CollTree) → coll_back (coll_code c) ≡ c
coll_again all_objects = refl
coll_again (listed ns) = λ i. listed (names_again ns i)
coll_again (boxes_of a) = λ i. boxes_of (name_again a i)

abbrev mutual
  pub formula_code : FormulaTree → Gv
  formula_code (truth p) = node 0 p gnil gnil
  formula_code (falsehood p) = node 1 p gnil gnil
  formula_code (negation p f) = node 2 p (formula_code f) gnil
  formula_code (all_of p fs) = node 3 p gnil (formulas_code fs)
  formula_code (any_of p fs) = node 4 p gnil (formulas_code fs)
  formula_code (implication p f g) = node 5 p (formula_code f) (formula_code g)
  formula_code (equivalence p f g) = node 6 p (formula_code f) (formula_code g)
  formula_code (comparison p a r b) = node 7 p (gnum (rel_code r)) (gcons (expr_code a) (expr_code b))
  formula_code (quantified p k v c f) = node 8 p (formula_code f) (gcons (kind_code k) (gcons (name_code v) (coll_code c)))
  formula_code (formula_call p a es) = node 9 p (name_code a) (arguments_code es)

  formulas_code : FormulaTrees → Gv
  formulas_code no_formulas = gnil
  formulas_code (a_formula f fs) = gcons (formula_code f) (formulas_code fs)

abbrev formula_of : ℕ → ℕ → Gv → Gv → FormulaTree → FormulaTree → FormulaTrees → FormulaTree
formula_of k p x y f g fs =
    if k == 0 then truth p else if k == 1 then falsehood p else if k == 2 then negation p f else
    if k == 3 then all_of p fs else if k == 4 then any_of p fs else if k == 5 then implication p f g else
    if k == 6 then equivalence p f g else if k == 7 then comparison p (expr_back (first y)) (rel_back (num x)) (expr_back (second y)) else
    if k == 8 then quantified p (kind_back (first y)) (name_back (first (second y))) (coll_back (second (second y))) f else
    formula_call p (name_back x) (arguments_back y)

abbrev mutual
  formula_back : Gv → FormulaTree
  formula_back (gcons k (gcons p (gcons x y))) = formula_of (num k) (num p) x y (formula_back x) (formula_back y) (formulas_back y)
  formula_back _ = truth 0

  formulas_back : Gv → FormulaTrees
  formulas_back gnil = no_formulas
  formulas_back (gnum n) = no_formulas
  formulas_back (gcons a b) = a_formula (formula_back a) (formulas_back b)

mutual
  pub formula_again : (f : FormulaTree) → formula_back (formula_code f) ≡ f
  formula_again (truth p) = refl
  formula_again (falsehood p) = refl
  formula_again (negation p f) = λ i. negation p (formula_again f i)
  formula_again (all_of p fs) = λ i. all_of p (formulas_again fs i)
  formula_again (any_of p fs) = λ i. any_of p (formulas_again fs i)
  formula_again (implication p f g) = λ i. implication p (formula_again f i) (formula_again g i)
  formula_again (equivalence p f g) = λ i. equivalence p (formula_again f i) (formula_again g i)
  formula_again (comparison p a r b) = λ i. comparison p (expr_again a i) (rel_again r i) (expr_again b i)
  formula_again (quantified p k v c f) = λ i. quantified p (kind_again k i) (name_again v i) (coll_again c i) (formula_again f i)
  formula_again (formula_call p a es) = λ i. formula_call p (name_again a i) (arguments_again es i)

  formulas_again : (fs : FormulaTrees) → formulas_back (formulas_code fs) ≡ fs
  formulas_again no_formulas = refl
  formulas_again (a_formula f fs) = λ i. a_formula (formula_again f i) (formulas_again fs i)

abbrev pub expr_coded : Coded ExprTree
expr_coded = record { code = expr_code; inj = λ x y p. sym (expr_again x) ∙ ap expr_back p ∙ expr_again y }

abbrev pub formula_coded : Coded FormulaTree
formula_coded = record { code = formula_code; inj = λ x y p. sym (formula_again x) ∙ ap formula_back p ∙ formula_again y }
