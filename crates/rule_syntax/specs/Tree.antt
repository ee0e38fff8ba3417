-- What tokens spell: trees with the places of their tokens.
use Rattle.std.specs.Prelude.{ℕ, List, [], ◌∷◌}
use Rattle.rule_syntax.specs.declared.tree.PlacedName.{PlacedName}
use Rattle.rule_syntax.specs.declared.tree.Rel.{Rel}
use Rattle.rule_syntax.specs.declared.tree.QuantKind.{QuantKind}

-- The first number of a node is the place of its first token. The number between a field's names is the place of
-- its dot, and the first one of `over` and `modulo` the place of the second.
mutual
  pub data ExprTree : Type 0 where
    number : ℕ → ℕ → ExprTree
    field : PlacedName → ℕ → PlacedName → ExprTree
    param : PlacedName → ExprTree
    shape_number : ℕ → PlacedName → ExprTree
    negative : ℕ → ExprTree → ExprTree
    sum : ℕ → ExprTree → SumTrees → ExprTree
    product : ℕ → ExprTree → ProductTrees → ExprTree
    least : ℕ → ExprTree → ExprTree → ExprTree
    greatest : ℕ → ExprTree → ExprTree → ExprTree
    value_call : ℕ → PlacedName → ArgumentTrees → ExprTree

  pub data SumTree : Type 0 where
    plus : ExprTree → SumTree
    minus : ExprTree → SumTree

  pub data SumTrees : Type 0 where
    no_sums : SumTrees
    a_sum : SumTree → SumTrees → SumTrees

  pub data ProductTree : Type 0 where
    times : ExprTree → ProductTree
    over : ℕ → ℕ → ProductTree
    modulo : ℕ → ℕ → ProductTree

  pub data ProductTrees : Type 0 where
    no_products : ProductTrees
    a_product : ProductTree → ProductTrees → ProductTrees

  pub data ArgumentTree : Type 0 where
    argument : ℕ → ExprTree → ArgumentTree

  pub data ArgumentTrees : Type 0 where
    no_arguments : ArgumentTrees
    an_argument : ArgumentTree → ArgumentTrees → ArgumentTrees

abbrev pub sums : List SumTree → SumTrees
sums [] = no_sums
sums (s ∷ ss) = a_sum s (sums ss)

abbrev pub products : List ProductTree → ProductTrees
products [] = no_products
products (s ∷ ss) = a_product s (products ss)

abbrev pub arguments : List ArgumentTree → ArgumentTrees
arguments [] = no_arguments
arguments (a ∷ others) = an_argument a (arguments others)

-- what a quantifier's variable ranges over
pub data CollTree : Type 0 where
  all_objects : CollTree
  listed : List PlacedName → CollTree
  boxes_of : PlacedName → CollTree

mutual
  pub data FormulaTree : Type 0 where
    truth : ℕ → FormulaTree
    falsehood : ℕ → FormulaTree
    negation : ℕ → FormulaTree → FormulaTree
    all_of : ℕ → FormulaTrees → FormulaTree
    any_of : ℕ → FormulaTrees → FormulaTree
    implication : ℕ → FormulaTree → FormulaTree → FormulaTree
    equivalence : ℕ → FormulaTree → FormulaTree → FormulaTree
    comparison : ℕ → ExprTree → Rel → ExprTree → FormulaTree
    quantified : ℕ → QuantKind → PlacedName → CollTree → FormulaTree → FormulaTree
    formula_call : ℕ → PlacedName → ArgumentTrees → FormulaTree

  pub data FormulaTrees : Type 0 where
    no_formulas : FormulaTrees
    a_formula : FormulaTree → FormulaTrees → FormulaTrees

abbrev pub formulas : List FormulaTree → FormulaTrees
formulas [] = no_formulas
formulas (f ∷ fs) = a_formula f (formulas fs)
