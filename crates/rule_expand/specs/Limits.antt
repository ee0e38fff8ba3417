-- What an expansion within limits answers: the tree where it keeps within them, and a fault exactly where it does not.
use Rattle.std.specs.Prelude.{◌≡◌, ℕ, ◌+◌, ◌<◌, ◌≤◌, ◌⊎◌, max, List, Result, MatchResult}
use Rattle.rule_expand.specs.Plain.{PlainExprTree, PlainFormulaTree, PlainFormulas, PlainSumTree, PlainSums, PlainProductTree, PlainProducts}
use Rattle.rule_expand.specs.PlainView.{plain_expr_view, plain_sum_view, plain_product_view, plain_sums_view, plain_products_view, plain_formula_view, plain_formulas_view}
use Rattle.rule_expand.specs.Expansion.{binders, binders_in}
use Rattle.rule_expand.specs.Counts.{expr_nodes, expr_depth, sum_nodes, sum_depth, product_nodes, product_depth, sums_nodes, sums_depth, products_nodes, products_depth, nodes, depth, nodes_in, depth_in}
use Rattle.rule_expand.specs.declared.plain.PlainExpr.{PlainExpr}
use Rattle.rule_expand.specs.declared.plain.PlainSum.{PlainSum}
use Rattle.rule_expand.specs.declared.plain.PlainProd.{PlainProd}
use Rattle.rule_expand.specs.declared.plain.PlainFormula.{PlainFormula}
use Rattle.rule_expand.specs.declared.limits.ExpandFault.{ExpandFault}
use Rattle.rule_expand.specs.declared.limits.ExpandFault.TheVariants.{TooLarge, Memory}

-- why there is no tree: more nodes than the room or deeper than allowed, or want of memory, which is free
abbrev pub IsLimitFault : ℕ → ℕ → ℕ → ℕ → ExpandFault → Type 0
IsLimitFault n d room deep TooLarge = (room < n) ⊎ (deep < d)
IsLimitFault n d room deep Memory = Unit {0}

-- an expression that is this tree, which took its nodes from the room
pub record ExprMade (t : PlainExprTree) (room deep left : ℕ) (e : PlainExpr) : Type 0 where
  pub view : plain_expr_view e ≡ t
  pub taken : left + expr_nodes t ≡ room
  pub shallow : expr_depth t ≤ deep

abbrev pub GivesExpr : PlainExprTree → ℕ → ℕ → ℕ → Result PlainExpr ExpandFault → Type 0
GivesExpr t room deep left r = MatchResult r (λ e. ExprMade t room deep left e) (λ f. IsLimitFault (expr_nodes t) (expr_depth t) room deep f)

pub record SumMade (t : PlainSumTree) (room deep left : ℕ) (s : PlainSum) : Type 0 where
  pub view : plain_sum_view s ≡ t
  pub taken : left + sum_nodes t ≡ room
  pub shallow : sum_depth t ≤ deep

pub record ProductMade (t : PlainProductTree) (room deep left : ℕ) (s : PlainProd) : Type 0 where
  pub view : plain_product_view s ≡ t
  pub taken : left + product_nodes t ≡ room
  pub shallow : product_depth t ≤ deep

pub record SumsMade (t : PlainSums) (room deep left : ℕ) (ss : List PlainSum) : Type 0 where
  pub view : plain_sums_view ss ≡ t
  pub taken : left + sums_nodes t ≡ room
  pub shallow : sums_depth t ≤ deep

pub record ProductsMade (t : PlainProducts) (room deep left : ℕ) (ss : List PlainProd) : Type 0 where
  pub view : plain_products_view ss ≡ t
  pub taken : left + products_nodes t ≡ room
  pub shallow : products_depth t ≤ deep

-- a formula that is this tree, which took its nodes from the room and its variables' numbers from the next one on
pub record FormulaMade (t : PlainFormulaTree) (next room deep next' left : ℕ) (f : PlainFormula) : Type 0 where
  pub view : plain_formula_view f ≡ t
  pub taken : left + nodes t ≡ room
  pub numbered : next' ≡ next + binders t
  pub shallow : depth t ≤ deep

-- a formula without quantifiers, which takes no number
abbrev pub GivesUnbound : PlainFormulaTree → ℕ → ℕ → ℕ → Result PlainFormula ExpandFault → Type 0
GivesUnbound t room deep left r = (next : ℕ) → MatchResult r (λ f. FormulaMade t next room deep next left f) (λ e. IsLimitFault (nodes t) (depth t) room deep e)

-- two formulas, the second of which took its numbers behind the first
pub record PairMade (t u : PlainFormulaTree) (next room deep next' left : ℕ) (f g : PlainFormula) : Type 0 where
  pub first : plain_formula_view f ≡ t
  pub second : plain_formula_view g ≡ u
  pub taken : left + (nodes t + nodes u) ≡ room
  pub numbered : next' ≡ next + (binders t + binders u)
  pub shallow : max (depth t) (depth u) ≤ deep

abbrev pub GivesFormula : PlainFormulaTree → ℕ → ℕ → ℕ → ℕ → ℕ → Result PlainFormula ExpandFault → Type 0
GivesFormula t next room deep next' left r = MatchResult r (λ f. FormulaMade t next room deep next' left f) (λ e. IsLimitFault (nodes t) (depth t) room deep e)

pub record FormulasMade (t : PlainFormulas) (next room deep next' left : ℕ) (fs : List PlainFormula) : Type 0 where
  pub view : plain_formulas_view fs ≡ t
  pub taken : left + nodes_in t ≡ room
  pub numbered : next' ≡ next + binders_in t
  pub shallow : depth_in t ≤ deep
