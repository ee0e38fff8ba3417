-- A node within limits, over parts that took their nodes from the rest of the room.
use Rattle.std.proofs.Common.{◌≡◌, ℕ, ◌+◌, ◌-◌, ◌<◌, ◌≤◌, max, inl, inr, sym, ap, ◌∙◌, arith, subst}
use Rattle.std.specs.Prelude.{List, Result, Ok, Err, MatchResult, ◌⊎◌}
use Rattle.rule_syntax.specs.declared.tree.QuantKind.{QuantKind}
use Rattle.rule_syntax.specs.declared.tree.Rel.{Rel}
use Rattle.rule_expand.specs.Plain as plain
use Rattle.rule_expand.specs.Plain.{PlainExprTree, PlainSums, PlainProducts, PlainCollTree, PlainFormulaTree, PlainFormulas}
use Rattle.rule_expand.specs.PlainView.{plain_expr_view, plain_sums_view, plain_products_view, plain_coll_view, plain_formula_view, plain_formulas_view}
use Rattle.rule_expand.specs.Expansion.{binders, binders_in}
use Rattle.rule_expand.specs.Counts.{expr_nodes, expr_depth, nodes, depth, nodes_in, depth_in}
use Rattle.rule_expand.specs.Limits.{IsLimitFault, ExprMade, GivesExpr, SumsMade, ProductsMade, FormulaMade, FormulasMade, GivesFormula, PairMade}
use Rattle.rule_expand.specs.declared.limits.ExpandFault.{ExpandFault}
use Rattle.rule_expand.specs.declared.limits.ExpandFault.TheVariants.{TooLarge, Memory}
use Rattle.rule_expand.specs.declared.plain.PlainExpr.{PlainExpr}
use Rattle.rule_expand.specs.declared.plain.PlainSum.{PlainSum}
use Rattle.rule_expand.specs.declared.plain.PlainProd.{PlainProd}
use Rattle.rule_expand.specs.declared.plain.PlainColl.{PlainColl}
use Rattle.rule_expand.specs.declared.plain.PlainFormula.{PlainFormula}

-- there is no node for it
pub no-node : (n d room deep : ℕ) → 1 ≤ n → 1 ≤ d → (room ≡ 0) ⊎ (deep ≡ 0) → (room < n) ⊎ (deep < d)
no-node n d room deep a b (inl h) = inl (omega arith)
no-node n d room deep a b (inr h) = inr (omega arith)

-- a part lacks room or depth, where the node and the parts before it took so many
pub part-lacks : (n d most deepest taken room left deep : ℕ) (f : ExpandFault) → left + taken ≡ room → taken + n ≤ most → 1 + d ≤ deepest → 0 < deep → IsLimitFault n d left (deep - 1) f → IsLimitFault most deepest room deep f
part-lacks n d most deepest taken room left deep TooLarge a b e h (inl g) = inl (omega arith)
part-lacks n d most deepest taken room left deep TooLarge a b e h (inr g) = inr (omega arith)
part-lacks n d most deepest taken room left deep Memory a b e h g = tt

pub expr-lacks : (t : PlainExprTree) (n d taken room rest deep left : ℕ) (f : ExpandFault) (r : Result PlainExpr ExpandFault) → r ≡ Err f → rest + taken ≡ room → taken + n ≤ expr_nodes t → 1 + d ≤ expr_depth t → 0 < deep →
    IsLimitFault n d rest (deep - 1) f → GivesExpr t room deep left r
expr-lacks t n d taken room rest deep left f r e a b h k g = subst (λ y. GivesExpr t room deep left y) (sym e) (part-lacks n d (expr_nodes t) (expr_depth t) taken room rest deep f a b h k g)

pub formula-lacks : (t : PlainFormulaTree) (n d taken next room rest deep next' left : ℕ) (f : ExpandFault) (r : Result PlainFormula ExpandFault) → r ≡ Err f → rest + taken ≡ room → taken + n ≤ nodes t → 1 + d ≤ depth t → 0 < deep →
    IsLimitFault n d rest (deep - 1) f → GivesFormula t next room deep next' left r
formula-lacks t n d taken next room rest deep next' left f r e a b h k g = subst (λ y. GivesFormula t next room deep next' left y) (sym e) (part-lacks n d (nodes t) (depth t) taken room rest deep f a b h k g)

pub formula-forgone : (t : PlainFormulaTree) (next room deep next' left : ℕ) (f : ExpandFault) (r : Result PlainFormula ExpandFault) → r ≡ Err f → f ≡ Memory → GivesFormula t next room deep next' left r
formula-forgone t next room deep next' left f r e h = subst (λ y. GivesFormula t next room deep next' left y) (sym e) (subst (λ y. IsLimitFault (nodes t) (depth t) room deep y) (sym h) tt)

gives-expr : {u t : PlainExprTree} (room deep left : ℕ) (r : Result PlainExpr ExpandFault) → u ≡ t → left + expr_nodes t ≡ room → expr_depth t ≤ deep →
    MatchResult r (λ q. plain_expr_view q ≡ u) (λ f. f ≡ Memory) → GivesExpr t room deep left r
gives-expr room deep left (Ok q) e n d h = record { view = h ∙ e; taken = n; shallow = d }
gives-expr {u} {t} room deep left (Err f) e n d h = subst (λ y. IsLimitFault (expr_nodes t) (expr_depth t) room deep y) (sym h) tt

gives-formula : {u t : PlainFormulaTree} (next room deep next' left : ℕ) (r : Result PlainFormula ExpandFault) → u ≡ t → left + nodes t ≡ room → next' ≡ next + binders t → depth t ≤ deep →
    MatchResult r (λ q. plain_formula_view q ≡ u) (λ f. f ≡ Memory) → GivesFormula t next room deep next' left r
gives-formula next room deep next' left (Ok q) e n b d h = record { view = h ∙ e; taken = n; numbered = b; shallow = d }
gives-formula {u} {t} next room deep next' left (Err f) e n b d h = subst (λ y. IsLimitFault (nodes t) (depth t) room deep y) (sym h) tt

pub negative-made : (t : PlainExprTree) (room rest deep left : ℕ) (e : PlainExpr) (r : Result PlainExpr ExpandFault) → (rest + 1 ≡ room) × (0 < deep) → ExprMade t rest (deep - 1) left e →
    MatchResult r (λ q. plain_expr_view q ≡ plain.negative (plain_expr_view e)) (λ f. f ≡ Memory) → GivesExpr (plain.negative t) room deep left r
negative-made t room rest deep left e r k m h =
    gives-expr room deep left r (ap plain.negative m.view) (let n = m.taken in let a = k.0 in omega arith) (let d = m.shallow in let a = k.1 in omega arith) h

-- the least or the greatest of two
pub extreme-made : (node : PlainExprTree → PlainExprTree → PlainExprTree) (t u : PlainExprTree) (room rest between deep left : ℕ) (a b : PlainExpr) (r : Result PlainExpr ExpandFault) →
    expr_nodes (node t u) ≡ 1 + expr_nodes t + expr_nodes u → expr_depth (node t u) ≡ 1 + max (expr_depth t) (expr_depth u) → (rest + 1 ≡ room) × (0 < deep) → ExprMade t rest (deep - 1) between a →
    ExprMade u between (deep - 1) left b → MatchResult r (λ q. plain_expr_view q ≡ node (plain_expr_view a) (plain_expr_view b)) (λ f. f ≡ Memory) → GivesExpr (node t u) room deep left r
extreme-made node t u room rest between deep left a b r i j k m n h =
    gives-expr room deep left r (ap (λ y. node y (plain_expr_view b)) m.view ∙ ap (node t) n.view) (let x = m.taken in let y = n.taken in let z = k.0 in omega arith) (let x = m.shallow in let y = n.shallow in let z = k.1 in omega arith) h

pub sum-made : (t : PlainExprTree) (u : PlainSums) (room rest between deep left : ℕ) (a : PlainExpr) (steps : List PlainSum) (r : Result PlainExpr ExpandFault) → (rest + 1 ≡ room) × (0 < deep) → ExprMade t rest (deep - 1) between a →
    SumsMade u between (deep - 1) left steps → MatchResult r (λ q. plain_expr_view q ≡ plain.sum (plain_expr_view a) (plain_sums_view steps)) (λ f. f ≡ Memory) → GivesExpr (plain.sum t u) room deep left r
sum-made t u room rest between deep left a steps r k m n h =
    gives-expr room deep left r (ap (λ y. plain.sum y (plain_sums_view steps)) m.view ∙ ap (plain.sum t) n.view) (let x = m.taken in let y = n.taken in let z = k.0 in omega arith) (let x = m.shallow in let y = n.shallow in let z = k.1 in omega arith) h

pub product-made : (t : PlainExprTree) (u : PlainProducts) (room rest between deep left : ℕ) (a : PlainExpr) (steps : List PlainProd) (r : Result PlainExpr ExpandFault) → (rest + 1 ≡ room) × (0 < deep) → ExprMade t rest (deep - 1) between a →
    ProductsMade u between (deep - 1) left steps → MatchResult r (λ q. plain_expr_view q ≡ plain.product (plain_expr_view a) (plain_products_view steps)) (λ f. f ≡ Memory) → GivesExpr (plain.product t u) room deep left r
product-made t u room rest between deep left a steps r k m n h =
    gives-expr room deep left r (ap (λ y. plain.product y (plain_products_view steps)) m.view ∙ ap (plain.product t) n.view) (let x = m.taken in let y = n.taken in let z = k.0 in omega arith) (let x = m.shallow in let y = n.shallow in let z = k.1 in omega arith) h

pub negation-made : (t : PlainFormulaTree) (next room rest deep next' left : ℕ) (f : PlainFormula) (r : Result PlainFormula ExpandFault) → (rest + 1 ≡ room) × (0 < deep) → FormulaMade t next rest (deep - 1) next' left f →
    MatchResult r (λ q. plain_formula_view q ≡ plain.negation (plain_formula_view f)) (λ e. e ≡ Memory) → GivesFormula (plain.negation t) next room deep next' left r
negation-made t next room rest deep next' left f r k m h =
    gives-formula next room deep next' left r (ap plain.negation m.view) (let n = m.taken in let a = k.0 in omega arith) m.numbered (let d = m.shallow in let a = k.1 in omega arith) h

-- an `and` or an `or`
pub operands-made : (node : PlainFormulas → PlainFormulaTree) (t : PlainFormulas) (next room rest deep next' left : ℕ) (parts : List PlainFormula) (q : PlainFormula) → nodes (node t) ≡ 1 + nodes_in t → depth (node t) ≡ 1 + depth_in t →
    binders (node t) ≡ binders_in t → (rest + 1 ≡ room) × (0 < deep) → FormulasMade t next rest (deep - 1) next' left parts → plain_formula_view q ≡ node (plain_formulas_view parts) → FormulaMade (node t) next room deep next' left q
operands-made node t next room rest deep next' left parts q i j b k m h = record {
  view = h ∙ ap node m.view;
  taken = (let x = m.taken in let z = k.0 in omega arith);
  numbered = m.numbered ∙ ap (λ n. next + n) (sym b);
  shallow = (let x = m.shallow in let z = k.1 in omega arith);
}

-- an implication or an equivalence
pub both-made : (node : PlainFormulaTree → PlainFormulaTree → PlainFormulaTree) (t u : PlainFormulaTree) (next room rest deep next' left : ℕ) (f g : PlainFormula) (r : Result PlainFormula ExpandFault) → nodes (node t u) ≡ 1 + nodes t + nodes u →
    depth (node t u) ≡ 1 + max (depth t) (depth u) → binders (node t u) ≡ binders t + binders u → (rest + 1 ≡ room) × (0 < deep) → PairMade t u next rest (deep - 1) next' left f g →
    MatchResult r (λ q. plain_formula_view q ≡ node (plain_formula_view f) (plain_formula_view g)) (λ e. e ≡ Memory) → GivesFormula (node t u) next room deep next' left r
both-made node t u next room rest deep next' left f g r i j b k m h =
    gives-formula next room deep next' left r (ap (λ y. node y (plain_formula_view g)) m.first ∙ ap (node t) m.second) (let x = m.taken in let z = k.0 in omega arith) (m.numbered ∙ ap (λ n. next + n) (sym b)) (let x = m.shallow in let z = k.1 in omega arith) h

pub quantified-made : (kind : QuantKind) (elements : PlainCollTree) (t : PlainFormulaTree) (next room rest deep next' left : ℕ) (coll : PlainColl) (f : PlainFormula) (r : Result PlainFormula ExpandFault) → (rest + 1 ≡ room) × (0 < deep) →
    plain_coll_view coll ≡ elements → FormulaMade t (next + 1) rest (deep - 1) next' left f → MatchResult r (λ q. plain_formula_view q ≡ plain.quantified kind next (plain_coll_view coll) (plain_formula_view f)) (λ e. e ≡ Memory) →
    GivesFormula (plain.quantified kind next elements t) next room deep next' left r
quantified-made kind elements t next room rest deep next' left coll f r k c m h =
    gives-formula next room deep next' left r (ap (λ y. plain.quantified kind next y (plain_formula_view f)) c ∙ ap (plain.quantified kind next elements) m.view) (let x = m.taken in let z = k.0 in omega arith) (let x = m.numbered in omega arith)
    (let x = m.shallow in let z = k.1 in omega arith) h

pub comparison-made : (a : PlainExprTree) (rel : Rel) (b : PlainExprTree) (next room rest between deep left : ℕ) (x y : PlainExpr) (r : Result PlainFormula ExpandFault) → (rest + 1 ≡ room) × (0 < deep) → ExprMade a rest (deep - 1) between x →
    ExprMade b between (deep - 1) left y → MatchResult r (λ q. plain_formula_view q ≡ plain.comparison (plain_expr_view x) rel (plain_expr_view y)) (λ e. e ≡ Memory) → GivesFormula (plain.comparison a rel b) next room deep next left r
comparison-made a rel b next room rest between deep left x y r k m n h =
    gives-formula next room deep next left r (ap (λ z. plain.comparison z rel (plain_expr_view y)) m.view ∙ ap (plain.comparison a rel) n.view) (let i = m.taken in let j = n.taken in let z = k.0 in omega arith) (omega arith)
    (let i = m.shallow in let j = n.shallow in let z = k.1 in omega arith) h
