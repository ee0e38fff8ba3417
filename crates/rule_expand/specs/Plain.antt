-- Rules without macros, as plain data. Each quantifier of a rule has a number of its own for its variable; objects and
-- shapes stand by their positions from 0.
use Rattle.std.specs.Prelude.{ℕ, List, [], ◌∷◌}
use Rattle.rule_syntax.specs.declared.tree.Rel.{Rel}
use Rattle.rule_syntax.specs.declared.tree.QuantKind.{QuantKind}
use Rattle.rule_expand.specs.declared.plain.Subject.{Subject}

mutual
  pub data PlainExprTree : Type 0 where
    number : ℕ → PlainExprTree
    field : Subject → List ℕ → PlainExprTree
    shape_number : ℕ → PlainExprTree
    negative : PlainExprTree → PlainExprTree
    sum : PlainExprTree → PlainSums → PlainExprTree
    product : PlainExprTree → PlainProducts → PlainExprTree
    least : PlainExprTree → PlainExprTree → PlainExprTree
    greatest : PlainExprTree → PlainExprTree → PlainExprTree

  pub data PlainSumTree : Type 0 where
    plus : PlainExprTree → PlainSumTree
    minus : PlainExprTree → PlainSumTree

  pub data PlainSums : Type 0 where
    no_sums : PlainSums
    a_sum : PlainSumTree → PlainSums → PlainSums

  pub data PlainProductTree : Type 0 where
    times : PlainExprTree → PlainProductTree
    over : ℕ → PlainProductTree
    modulo : ℕ → PlainProductTree

  pub data PlainProducts : Type 0 where
    no_products : PlainProducts
    a_product : PlainProductTree → PlainProducts → PlainProducts

abbrev pub sums : List PlainSumTree → PlainSums
sums [] = no_sums
sums (s ∷ ss) = a_sum s (sums ss)

abbrev pub products : List PlainProductTree → PlainProducts
products [] = no_products
products (s ∷ ss) = a_product s (products ss)

-- what a quantifier's variable ranges over
pub data PlainCollTree : Type 0 where
  all_objects : PlainCollTree
  listed : List ℕ → PlainCollTree
  boxes_of : Subject → PlainCollTree

mutual
  pub data PlainFormulaTree : Type 0 where
    truth : PlainFormulaTree
    falsehood : PlainFormulaTree
    negation : PlainFormulaTree → PlainFormulaTree
    all_of : PlainFormulas → PlainFormulaTree
    any_of : PlainFormulas → PlainFormulaTree
    implication : PlainFormulaTree → PlainFormulaTree → PlainFormulaTree
    equivalence : PlainFormulaTree → PlainFormulaTree → PlainFormulaTree
    comparison : PlainExprTree → Rel → PlainExprTree → PlainFormulaTree
    quantified : QuantKind → ℕ → PlainCollTree → PlainFormulaTree → PlainFormulaTree

  pub data PlainFormulas : Type 0 where
    no_formulas : PlainFormulas
    a_formula : PlainFormulaTree → PlainFormulas → PlainFormulas

abbrev pub formulas : List PlainFormulaTree → PlainFormulas
formulas [] = no_formulas
formulas (f ∷ fs) = a_formula f (formulas fs)
