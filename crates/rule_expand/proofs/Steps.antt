-- A list of parts that is made one by one within limits.
use Rattle.std.proofs.Common.{◌≡◌, ℕ, zero, suc, ◌+◌, ◌<◌, ◌≤◌, List, [], ◌∷◌, ◌++◌, length, take, map, get_or, max, inl, inr, sym, ap, ◌∙◌, refl, arith, subst}
use Rattle.std.proofs.lemmas.List.{take_more, take_all, get_or-map, length-map, map-append}
use Rattle.rule_syntax.specs.Tree as tree
use Rattle.std.specs.Prelude.{Result, Err, MatchResult}
use Rattle.rule_syntax.specs.View.{expr_view, sum_view, product_view}
use Rattle.rule_syntax.specs.declared.tree.Expr.{Expr}
use Rattle.rule_syntax.specs.declared.tree.SumStep.TheVariants as sum_steps
use Rattle.rule_syntax.specs.declared.tree.ProdStep.TheVariants as product_steps
use Rattle.rule_syntax.specs.declared.tree.SumStep.{SumStep}
use Rattle.rule_syntax.specs.declared.tree.ProdStep.{ProdStep}
use Rattle.problem_data.specs.Problem.{ProblemData}
use Rattle.rule_expand.specs.Plain as plain
use Rattle.rule_expand.specs.Plain.{PlainExprTree, PlainSumTree, PlainProductTree}
use Rattle.rule_expand.specs.PlainView.{plain_sum_view, plain_product_view, plain_expr_step, plain_sum_step, plain_product_step}
use Rattle.rule_expand.specs.Expansion.{Subst, Expansions, expr_expanded, sum_expanded, sums_expanded, product_expanded, products_expanded}
use Rattle.rule_expand.specs.Counts.{expr_nodes, expr_depth, sum_nodes, sum_depth, sums_nodes, sums_depth, product_nodes, product_depth, products_nodes, products_depth}
use Rattle.rule_expand.specs.Limits.{IsLimitFault, ExprMade, SumMade, SumsMade, ProductMade, ProductsMade}
use Rattle.rule_expand.specs.Costs.{CostEnv, MacroCosts, sum_cost, sums_cost, product_cost, products_cost}
use Rattle.rule_expand.specs.declared.limits.ExpandFault.{ExpandFault}
use Rattle.rule_expand.specs.declared.limits.ExpandFault.TheVariants.{TooLarge, Memory}
use Rattle.rule_expand.specs.declared.plain.PlainExpr.{PlainExpr}
use Rattle.rule_expand.specs.declared.plain.PlainExpr.TheOpen.{PlainSum-F, PlainProd-F}
use Rattle.rule_expand.specs.declared.plain.PlainExpr.TheFolds.{fold-roll-PlainSum, fold-roll-PlainProd}
use Rattle.rule_expand.specs.declared.plain.PlainSum.{PlainSum}
use Rattle.rule_expand.specs.declared.plain.PlainSum.TheVariants as plain_sums
use Rattle.rule_expand.specs.declared.plain.PlainProd.TheVariants as plain_products
use Rattle.rule_syntax.proofs.Views.{plus-seen, minus-seen, times-seen}
use Rattle.rule_expand.specs.declared.plain.PlainProd.{PlainProd}

abbrev pub total : {T : Type 0} → (T → ℕ) → List T → ℕ
total f [] = 0
total f (t ∷ ts) = f t + total f ts

abbrev pub deepest : {T : Type 0} → (T → ℕ) → List T → ℕ
deepest f [] = 0
deepest f (t ∷ ts) = max (f t) (deepest f ts)

total-push : {T : Type 0} (f : T → ℕ) (ts : List T) (t : T) → total f (ts ++ t ∷ []) ≡ total f ts + f t
total-push f [] t = omega arith
total-push f (x ∷ ts) t = omega (arith, total-push f ts t)

deepest-push : {T : Type 0} (f : T → ℕ) (ts : List T) (t : T) → deepest f (ts ++ t ∷ []) ≡ max (deepest f ts) (f t)
deepest-push f [] t = omega arith
deepest-push f (x ∷ ts) t = omega (arith, deepest-push f ts t)

total-at : {T : Type 0} (f : T → ℕ) (ts : List T) (i : ℕ) (d : T) → i < length ts → total f (take i ts) + f (get_or ts i d) ≤ total f ts
total-at f [] i d h = absurd (omega arith)
total-at f (x ∷ ts) zero d h = omega arith
total-at f (x ∷ ts) (suc i) d h = omega (arith, total-at f ts i d (omega arith))

deepest-at : {T : Type 0} (f : T → ℕ) (ts : List T) (i : ℕ) (d : T) → i < length ts → f (get_or ts i d) ≤ deepest f ts
deepest-at f [] i d h = absurd (omega arith)
deepest-at f (x ∷ ts) zero d h = omega arith
deepest-at f (x ∷ ts) (suc i) d h = omega (arith, deepest-at f ts i d (omega arith))

-- the first i of the parts are made
pub record SoFar {T : Type 0} (nodes depth : T → ℕ) (ts : List T) (i room deep left : ℕ) (vs : List T) : Type 0 where
  pub view : vs ≡ take i ts
  pub taken : left + total nodes (take i ts) ≡ room
  pub shallow : deepest depth (take i ts) ≤ deep

pub sofar-step : {T : Type 0} (nodes depth : T → ℕ) (ts : List T) (i room deep left left' : ℕ) (vs ws : List T) (t : T) → SoFar nodes depth ts i room deep left vs → i < length ts → get_or ts i t ≡ t →
    left' + nodes t ≡ left → depth t ≤ deep → ws ≡ vs ++ t ∷ [] → SoFar nodes depth ts (i + 1) room deep left' ws
sofar-step nodes depth ts i room deep left left' vs ws t s h e n d w =
    let m : take (i + 1) ts ≡ take i ts ++ t ∷ [] = take_more ts i t h ∙ ap (λ x. take i ts ++ x ∷ []) e in
    record {
      view = w ∙ ap (λ x. x ++ t ∷ []) s.view ∙ sym m;
      taken = (let a = s.taken in omega (arith, ap (total nodes) m, total-push nodes (take i ts) t));
      shallow = (let a = s.shallow in omega (arith, ap (deepest depth) m, deepest-push depth (take i ts) t));
    }

pub sofar-lacks : {T : Type 0} (nodes depth : T → ℕ) (ts : List T) (i room deep left : ℕ) (vs : List T) (t : T) (e : ExpandFault) → SoFar nodes depth ts i room deep left vs → i < length ts → get_or ts i t ≡ t →
    IsLimitFault (nodes t) (depth t) left deep e → IsLimitFault (total nodes ts) (deepest depth ts) room deep e
sofar-lacks nodes depth ts i room deep left vs t TooLarge s h g (inl l) = inl (let a = s.taken in omega (arith, total-at nodes ts i t h, ap nodes g))
sofar-lacks nodes depth ts i room deep left vs t TooLarge s h g (inr l) = inr (omega (arith, deepest-at depth ts i t h, ap depth g))
sofar-lacks nodes depth ts i room deep left vs t Memory s h g l = tt

-- the parts of a sum
abbrev pub sum_parts : Expansions → ProblemData → Subst → List SumStep → List PlainSumTree
sum_parts x p sub items = map (λ s. sum_expanded x p (sum_view s) sub) items

pub sums-parts : (x : Expansions) (p : ProblemData) (sub : Subst) (items : List SumStep) → sums_expanded x p (tree.sums (map sum_view items)) sub ≡ plain.sums (sum_parts x p sub items)
sums-parts x p sub [] = refl
sums-parts x p sub (s ∷ items) = ap (plain.a_sum (sum_expanded x p (sum_view s) sub)) (sums-parts x p sub items)

sums-total : (ts : List PlainSumTree) → sums_nodes (plain.sums ts) ≡ total sum_nodes ts
sums-total [] = refl
sums-total (t ∷ ts) = ap (λ n. sum_nodes t + n) (sums-total ts)

sums-deepest : (ts : List PlainSumTree) → sums_depth (plain.sums ts) ≡ deepest sum_depth ts
sums-deepest [] = refl
sums-deepest (t ∷ ts) = ap (λ n. max (sum_depth t) n) (sums-deepest ts)

abbrev pub SumsSoFar : Expansions → ProblemData → Subst → List SumStep → ℕ → ℕ → ℕ → ℕ → List PlainSum → Type 0
SumsSoFar x p sub items i room deep left made = SoFar sum_nodes sum_depth (sum_parts x p sub items) i room deep left (map plain_sum_view made)

pub sums-init : (x : Expansions) (p : ProblemData) (sub : Subst) (items : List SumStep) (room deep : ℕ) → SumsSoFar x p sub items 0 room deep room []
sums-init x p sub items room deep = record { view = refl; taken = omega arith; shallow = omega arith }

part-of-sum : (x : Expansions) (p : ProblemData) (sub : Subst) (items : List SumStep) (i : ℕ) (s : SumStep) (d : PlainSumTree) → i < length items → s ≡ get_or items i s → get_or (sum_parts x p sub items) i d ≡ sum_expanded x p (sum_view s) sub
part-of-sum x p sub items i s d h e = get_or-map (λ s. sum_expanded x p (sum_view s) sub) items i s d h ∙ ap (λ y. sum_expanded x p (sum_view y) sub) (sym e)

pub sums-step : (x : Expansions) (p : ProblemData) (sub : Subst) (items : List SumStep) (i room deep left left' : ℕ) (made more : List PlainSum) (s : SumStep) (one : PlainSum) → SumsSoFar x p sub items i room deep left made → i < length items → s ≡ get_or items i s →
    SumMade (sum_expanded x p (sum_view s) sub) left deep left' one → more ≡ made ++ one ∷ [] → SumsSoFar x p sub items (i + 1) room deep left' more
sums-step x p sub items i room deep left left' made more s one k h e m w =
    sofar-step sum_nodes sum_depth (sum_parts x p sub items) i room deep left left' (map plain_sum_view made) (map plain_sum_view more) (sum_expanded x p (sum_view s) sub) k
    (let n = length-map items (λ y. sum_expanded x p (sum_view y) sub) in omega arith) (part-of-sum x p sub items i s _ h e) m.taken m.shallow
    (ap (map plain_sum_view) w ∙ map-append plain_sum_view made (one ∷ []) ∙ ap (λ y. map plain_sum_view made ++ y ∷ []) m.view)

pub sums-fault : (x : Expansions) (p : ProblemData) (sub : Subst) (items : List SumStep) (i room deep left : ℕ) (made : List PlainSum) (s : SumStep) (f : ExpandFault) → SumsSoFar x p sub items i room deep left made → i < length items → s ≡ get_or items i s →
    IsLimitFault (sum_nodes (sum_expanded x p (sum_view s) sub)) (sum_depth (sum_expanded x p (sum_view s) sub)) left deep f →
    IsLimitFault (sums_nodes (sums_expanded x p (tree.sums (map sum_view items)) sub)) (sums_depth (sums_expanded x p (tree.sums (map sum_view items)) sub)) room deep f
sums-fault x p sub items i room deep left made s f k h e l =
    subst (λ n. IsLimitFault n (sums_depth (sums_expanded x p (tree.sums (map sum_view items)) sub)) room deep f) (sym (ap sums_nodes (sums-parts x p sub items) ∙ sums-total (sum_parts x p sub items)))
    (subst (λ n. IsLimitFault (total sum_nodes (sum_parts x p sub items)) n room deep f) (sym (ap sums_depth (sums-parts x p sub items) ∙ sums-deepest (sum_parts x p sub items)))
    (sofar-lacks sum_nodes sum_depth (sum_parts x p sub items) i room deep left (map plain_sum_view made) (sum_expanded x p (sum_view s) sub) f k
    (let n = length-map items (λ y. sum_expanded x p (sum_view y) sub) in omega arith) (part-of-sum x p sub items i s _ h e) l))

pub sums-end : (x : Expansions) (p : ProblemData) (sub : Subst) (items : List SumStep) (i room deep left : ℕ) (made : List PlainSum) → SumsSoFar x p sub items i room deep left made → length items ≤ i →
    SumsMade (sums_expanded x p (tree.sums (map sum_view items)) sub) room deep left made
sums-end x p sub items i room deep left made k h =
    let ts = sum_parts x p sub items in
    let all : take i ts ≡ ts = take_all i ts (let n = length-map items (λ y. sum_expanded x p (sum_view y) sub) in omega arith) in
    record {
      view = ap plain.sums (k.view ∙ all) ∙ sym (sums-parts x p sub items);
      taken = (let a = k.taken in omega (arith, ap (total sum_nodes) all, sums-total ts, ap sums_nodes (sums-parts x p sub items)));
      shallow = (let a = k.shallow in omega (arith, ap (deepest sum_depth) all, sums-deepest ts, ap sums_depth (sums-parts x p sub items)));
    }

sums-cost-in : (c : MacroCosts) (p : ProblemData) (env : CostEnv) (items : List SumStep) (i : ℕ) (d : SumStep) → i < length items → sum_cost c p (sum_view (get_or items i d)) env ≤ sums_cost c p (tree.sums (map sum_view items)) env
sums-cost-in c p env [] i d h = absurd (omega arith)
sums-cost-in c p env (s ∷ items) zero d h = omega arith
sums-cost-in c p env (s ∷ items) (suc i) d h = omega (arith, sums-cost-in c p env items i d (omega arith))

pub sums-cost-at : (c : MacroCosts) (p : ProblemData) (env : CostEnv) (items : List SumStep) (i : ℕ) (s : SumStep) → i < length items → s ≡ get_or items i s → sum_cost c p (sum_view s) env ≤ sums_cost c p (tree.sums (map sum_view items)) env
sums-cost-at c p env items i s h e = omega (arith, sums-cost-in c p env items i s h, ap (λ y. sum_cost c p (sum_view y) env) e)

-- the parts of a product
abbrev pub product_parts : Expansions → ProblemData → Subst → List ProdStep → List PlainProductTree
product_parts x p sub items = map (λ s. product_expanded x p (product_view s) sub) items

pub products-parts : (x : Expansions) (p : ProblemData) (sub : Subst) (items : List ProdStep) → products_expanded x p (tree.products (map product_view items)) sub ≡ plain.products (product_parts x p sub items)
products-parts x p sub [] = refl
products-parts x p sub (s ∷ items) = ap (plain.a_product (product_expanded x p (product_view s) sub)) (products-parts x p sub items)

products-total : (ts : List PlainProductTree) → products_nodes (plain.products ts) ≡ total product_nodes ts
products-total [] = refl
products-total (t ∷ ts) = ap (λ n. product_nodes t + n) (products-total ts)

products-deepest : (ts : List PlainProductTree) → products_depth (plain.products ts) ≡ deepest product_depth ts
products-deepest [] = refl
products-deepest (t ∷ ts) = ap (λ n. max (product_depth t) n) (products-deepest ts)

abbrev pub ProductsSoFar : Expansions → ProblemData → Subst → List ProdStep → ℕ → ℕ → ℕ → ℕ → List PlainProd → Type 0
ProductsSoFar x p sub items i room deep left made = SoFar product_nodes product_depth (product_parts x p sub items) i room deep left (map plain_product_view made)

pub products-init : (x : Expansions) (p : ProblemData) (sub : Subst) (items : List ProdStep) (room deep : ℕ) → ProductsSoFar x p sub items 0 room deep room []
products-init x p sub items room deep = record { view = refl; taken = omega arith; shallow = omega arith }

part-of-product : (x : Expansions) (p : ProblemData) (sub : Subst) (items : List ProdStep) (i : ℕ) (s : ProdStep) (d : PlainProductTree) → i < length items → s ≡ get_or items i s → get_or (product_parts x p sub items) i d ≡ product_expanded x p (product_view s) sub
part-of-product x p sub items i s d h e = get_or-map (λ s. product_expanded x p (product_view s) sub) items i s d h ∙ ap (λ y. product_expanded x p (product_view y) sub) (sym e)

pub products-step : (x : Expansions) (p : ProblemData) (sub : Subst) (items : List ProdStep) (i room deep left left' : ℕ) (made more : List PlainProd) (s : ProdStep) (one : PlainProd) → ProductsSoFar x p sub items i room deep left made → i < length items → s ≡ get_or items i s →
    ProductMade (product_expanded x p (product_view s) sub) left deep left' one → more ≡ made ++ one ∷ [] → ProductsSoFar x p sub items (i + 1) room deep left' more
products-step x p sub items i room deep left left' made more s one k h e m w =
    sofar-step product_nodes product_depth (product_parts x p sub items) i room deep left left' (map plain_product_view made) (map plain_product_view more) (product_expanded x p (product_view s) sub) k
    (let n = length-map items (λ y. product_expanded x p (product_view y) sub) in omega arith) (part-of-product x p sub items i s _ h e) m.taken m.shallow
    (ap (map plain_product_view) w ∙ map-append plain_product_view made (one ∷ []) ∙ ap (λ y. map plain_product_view made ++ y ∷ []) m.view)

pub products-fault : (x : Expansions) (p : ProblemData) (sub : Subst) (items : List ProdStep) (i room deep left : ℕ) (made : List PlainProd) (s : ProdStep) (f : ExpandFault) → ProductsSoFar x p sub items i room deep left made → i < length items → s ≡ get_or items i s →
    IsLimitFault (product_nodes (product_expanded x p (product_view s) sub)) (product_depth (product_expanded x p (product_view s) sub)) left deep f →
    IsLimitFault (products_nodes (products_expanded x p (tree.products (map product_view items)) sub)) (products_depth (products_expanded x p (tree.products (map product_view items)) sub)) room deep f
products-fault x p sub items i room deep left made s f k h e l =
    subst (λ n. IsLimitFault n (products_depth (products_expanded x p (tree.products (map product_view items)) sub)) room deep f) (sym (ap products_nodes (products-parts x p sub items) ∙ products-total (product_parts x p sub items)))
    (subst (λ n. IsLimitFault (total product_nodes (product_parts x p sub items)) n room deep f) (sym (ap products_depth (products-parts x p sub items) ∙ products-deepest (product_parts x p sub items)))
    (sofar-lacks product_nodes product_depth (product_parts x p sub items) i room deep left (map plain_product_view made) (product_expanded x p (product_view s) sub) f k
    (let n = length-map items (λ y. product_expanded x p (product_view y) sub) in omega arith) (part-of-product x p sub items i s _ h e) l))

pub products-end : (x : Expansions) (p : ProblemData) (sub : Subst) (items : List ProdStep) (i room deep left : ℕ) (made : List PlainProd) → ProductsSoFar x p sub items i room deep left made → length items ≤ i →
    ProductsMade (products_expanded x p (tree.products (map product_view items)) sub) room deep left made
products-end x p sub items i room deep left made k h =
    let ts = product_parts x p sub items in
    let all : take i ts ≡ ts = take_all i ts (let n = length-map items (λ y. product_expanded x p (product_view y) sub) in omega arith) in
    record {
      view = ap plain.products (k.view ∙ all) ∙ sym (products-parts x p sub items);
      taken = (let a = k.taken in omega (arith, ap (total product_nodes) all, products-total ts, ap products_nodes (products-parts x p sub items)));
      shallow = (let a = k.shallow in omega (arith, ap (deepest product_depth) all, products-deepest ts, ap products_depth (products-parts x p sub items)));
    }

products-cost-in : (c : MacroCosts) (p : ProblemData) (env : CostEnv) (items : List ProdStep) (i : ℕ) (d : ProdStep) → i < length items → product_cost c p (product_view (get_or items i d)) env ≤ products_cost c p (tree.products (map product_view items)) env
products-cost-in c p env [] i d h = absurd (omega arith)
products-cost-in c p env (s ∷ items) zero d h = omega arith
products-cost-in c p env (s ∷ items) (suc i) d h = omega (arith, products-cost-in c p env items i d (omega arith))

pub products-cost-at : (c : MacroCosts) (p : ProblemData) (env : CostEnv) (items : List ProdStep) (i : ℕ) (s : ProdStep) → i < length items → s ≡ get_or items i s → product_cost c p (product_view s) env ≤ products_cost c p (tree.products (map product_view items)) env
products-cost-at c p env items i s h e = omega (arith, products-cost-in c p env items i s h, ap (λ y. product_cost c p (product_view y) env) e)

-- ---- what one step becomes

pub plus-made : (x : Expansions) (p : ProblemData) (sub : Subst) {s : SumStep} (e : Expr) (room deep left : ℕ) (a : PlainExpr) → s ≡ sum_steps.Plus e → ExprMade (expr_expanded x p (expr_view e) sub) room deep left a →
    SumMade (sum_expanded x p (sum_view s) sub) room deep left (plain_sums.Plus a)
plus-made x p sub e room deep left a h m =
    subst (λ v. SumMade (sum_expanded x p v sub) room deep left (plain_sums.Plus a)) (sym (plus-seen e h)) (record {
      view = ap plain_sum_view (sym (plain_sums.rolls-Plus a)) ∙ fold-roll-PlainSum PlainExprTree PlainProductTree PlainSumTree plain_expr_step plain_product_step plain_sum_step (PlainSum-F.Plus a) ∙ ap plain.plus m.view;
      taken = m.taken;
      shallow = m.shallow;
    })

pub plus-fault : (x : Expansions) (p : ProblemData) (sub : Subst) {s : SumStep} (e : Expr) (room deep left : ℕ) (r : Result PlainSum ExpandFault) (f : ExpandFault) → s ≡ sum_steps.Plus e → r ≡ Err f →
    IsLimitFault (expr_nodes (expr_expanded x p (expr_view e) sub)) (expr_depth (expr_expanded x p (expr_view e) sub)) room deep f →
    MatchResult r (λ y. SumMade (sum_expanded x p (sum_view s) sub) room deep left y) (λ g. IsLimitFault (sum_nodes (sum_expanded x p (sum_view s) sub)) (sum_depth (sum_expanded x p (sum_view s) sub)) room deep g)
plus-fault x p sub e room deep left r f h is k =
    rw is (subst (λ v. IsLimitFault (sum_nodes (sum_expanded x p v sub)) (sum_depth (sum_expanded x p v sub)) room deep f) (sym (plus-seen e h)) k)

pub minus-made : (x : Expansions) (p : ProblemData) (sub : Subst) {s : SumStep} (e : Expr) (room deep left : ℕ) (a : PlainExpr) → s ≡ sum_steps.Minus e → ExprMade (expr_expanded x p (expr_view e) sub) room deep left a →
    SumMade (sum_expanded x p (sum_view s) sub) room deep left (plain_sums.Minus a)
minus-made x p sub e room deep left a h m =
    subst (λ v. SumMade (sum_expanded x p v sub) room deep left (plain_sums.Minus a)) (sym (minus-seen e h)) (record {
      view = ap plain_sum_view (sym (plain_sums.rolls-Minus a)) ∙ fold-roll-PlainSum PlainExprTree PlainProductTree PlainSumTree plain_expr_step plain_product_step plain_sum_step (PlainSum-F.Minus a) ∙ ap plain.minus m.view;
      taken = m.taken;
      shallow = m.shallow;
    })

pub minus-fault : (x : Expansions) (p : ProblemData) (sub : Subst) {s : SumStep} (e : Expr) (room deep left : ℕ) (r : Result PlainSum ExpandFault) (f : ExpandFault) → s ≡ sum_steps.Minus e → r ≡ Err f →
    IsLimitFault (expr_nodes (expr_expanded x p (expr_view e) sub)) (expr_depth (expr_expanded x p (expr_view e) sub)) room deep f →
    MatchResult r (λ y. SumMade (sum_expanded x p (sum_view s) sub) room deep left y) (λ g. IsLimitFault (sum_nodes (sum_expanded x p (sum_view s) sub)) (sum_depth (sum_expanded x p (sum_view s) sub)) room deep g)
minus-fault x p sub e room deep left r f h is k =
    rw is (subst (λ v. IsLimitFault (sum_nodes (sum_expanded x p v sub)) (sum_depth (sum_expanded x p v sub)) room deep f) (sym (minus-seen e h)) k)

pub times-made : (x : Expansions) (p : ProblemData) (sub : Subst) {s : ProdStep} (e : Expr) (room deep left : ℕ) (a : PlainExpr) → s ≡ product_steps.Times e → ExprMade (expr_expanded x p (expr_view e) sub) room deep left a →
    ProductMade (product_expanded x p (product_view s) sub) room deep left (plain_products.Times a)
times-made x p sub e room deep left a h m =
    subst (λ v. ProductMade (product_expanded x p v sub) room deep left (plain_products.Times a)) (sym (times-seen e h)) (record {
      view = ap plain_product_view (sym (plain_products.rolls-Times a)) ∙ fold-roll-PlainProd PlainExprTree PlainProductTree PlainSumTree plain_expr_step plain_product_step plain_sum_step (PlainProd-F.Times a) ∙ ap plain.times m.view;
      taken = m.taken;
      shallow = m.shallow;
    })

pub times-fault : (x : Expansions) (p : ProblemData) (sub : Subst) {s : ProdStep} (e : Expr) (room deep left : ℕ) (r : Result PlainProd ExpandFault) (f : ExpandFault) → s ≡ product_steps.Times e → r ≡ Err f →
    IsLimitFault (expr_nodes (expr_expanded x p (expr_view e) sub)) (expr_depth (expr_expanded x p (expr_view e) sub)) room deep f →
    MatchResult r (λ y. ProductMade (product_expanded x p (product_view s) sub) room deep left y) (λ g. IsLimitFault (product_nodes (product_expanded x p (product_view s) sub)) (product_depth (product_expanded x p (product_view s) sub)) room deep g)
times-fault x p sub e room deep left r f h is k =
    rw is (subst (λ v. IsLimitFault (product_nodes (product_expanded x p v sub)) (product_depth (product_expanded x p v sub)) room deep f) (sym (times-seen e h)) k)
