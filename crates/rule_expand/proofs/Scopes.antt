-- Looking a parameter up.
use Rattle.std.proofs.Common.{◌≡◌, ℕ, suc, ◌+◌, Bool, true, false, cond, not, List, [], ◌∷◌, length, take, map, get_or, ltb, sym, ap, ◌∙◌, refl, arith, ◌≤◌, subst}
use Rattle.std.specs.Prelude.{Option, None, Some}
use Rattle.std.specs.Option.{option_map_or, option_map}
use Rattle.std.specs.List.{position, position_or_len}
use Rattle.std.specs.Str.{bytes_eq}
use Rattle.std.proofs.lemmas.Bool.Decides.{nat_tests}
use Rattle.rule_syntax.specs.declared.tree.Argument.{Argument}
use Rattle.rule_syntax.specs.declared.tree.Expr.TheFolds.{fold_out-Argument}
use Rattle.rule_syntax.specs.Tree.{ExprTree, ProductTree, SumTree, ArgumentTree, argument, arguments}
use Rattle.rule_syntax.specs.View.{argument_view, expr_view, expr_step, product_step, sum_step, argument_step}
use Rattle.problem_data.specs.Problem.{ProblemData}
use Rattle.problem_data.specs.ProblemView.{param_data}
use Rattle.problem_data.specs.declared.problem.ParamDef.{ParamDef}
use Rattle.rule_expand.specs.Expansion.{Meant, a_subject, Subst, Expansions, meant_by, meant, argument_meant, arguments_meant, expansions_of, give, give_all}
use Rattle.rule_expand.specs.declared.plain.Subject.TheVariants as subjects
use Rattle.geo_tokens.specs.declared.name.Name.{Name}
use Rattle.std.proofs.Common.{Bor}
use Rattle.rule_expand.specs.Costs.{CostEnv, MacroCosts, cost_by, cost, argument_cost, costs, costs_of, price, price_all}
use Rattle.rule_expand.specs.ScopeView.{scope_view, scope_layer, prices, price_layer}
use Rattle.rule_expand.specs.declared.scope.Scope.{Scope}
use Rattle.rule_expand.specs.declared.scope.Scope.TheOpen.{Scope-F}
use Rattle.rule_expand.specs.declared.scope.Scope.TheVariants.{Objects, Variable, Parameters, rolls-Objects, rolls-Variable, rolls-Parameters}
use Rattle.rule_expand.specs.declared.scope.Scope.TheFolds.{fold-roll-Scope}

pub argument-views : (a : Argument) → argument_view a ≡ argument a.place (expr_view a.value)
argument-views a = fold_out-Argument ExprTree ProductTree SumTree ArgumentTree expr_step product_step sum_step argument_step a

choose : (b : Bool) (x y : Option ℕ) → b ≡ true → cond b x y ≡ x
choose true x y h = refl
choose false x y h = cc

first-later : (l n : ℕ) (b : Bool) → ltb l n ≡ b → cond (ltb (1 + l) (n + 1)) (Some (1 + l)) None ≡ option_map (λ i. i + 1) (cond b (Some l) None)
first-later l n true e = choose (ltb (1 + l) (n + 1)) (Some (1 + l)) None (grind (arith, nat_tests)) ∙ ap (λ i. Some i) (let z : 1 + l ≡ l + 1 = omega arith in z)
first-later l n false e = let f : ltb (1 + l) (n + 1) ≡ false = grind (arith, nat_tests) in ap (λ b. cond b (Some (1 + l)) None) f

first-here : (l n : ℕ) (b : Bool) → cond (ltb (cond (not b) (1 + l) 0) (n + 1)) (Some (cond (not b) (1 + l) 0)) None ≡ cond b (Some 0) (option_map (λ i. i + 1) (cond (ltb l n) (Some l) None))
first-here l n true = choose (ltb 0 (n + 1)) (Some 0) None (grind (arith, nat_tests))
first-here l n false = first-later l n (ltb l n) refl

pub position-cons : {X : Type 0} (test : X → Bool) (x : X) (xs : List X) → position test (x ∷ xs) ≡ cond (test x) (Some 0) (option_map (λ i. i + 1) (position test xs))
position-cons test x xs = ap (λ n. cond (ltb (position_or_len test (x ∷ xs)) n) (Some (position_or_len test (x ∷ xs))) None) (let z : length (x ∷ xs) ≡ length xs + 1 = omega arith in z) ∙ first-here (position_or_len test xs) (length xs) (test x)

take-cons : {X : Type 0} (n : ℕ) (x : X) (xs : List X) → take (suc n) (x ∷ xs) ≡ x ∷ take n xs
take-cons n x xs = refl

bound-cond : (B : Type 0) (b : Bool) (f : ℕ → B) (g : ℕ → B) (o : Option ℕ) (d u : B) → f 0 ≡ u → ((i : ℕ) → f (i + 1) ≡ g i) →
    cond b u (option_map_or g o d) ≡ option_map_or f (cond b (Some 0) (option_map (λ i. i + 1) o)) d
bound-cond B true f g o d u e h = sym e
bound-cond B false f g None d u e h = refl
bound-cond B false f g (Some i) d u e h = sym (h i)

-- the value of a parameter: that of the argument at its position
pub bound-meant : (x : Expansions) (p : ProblemData) (sub : Subst) (n : List ℕ) (params : List ParamDef) (args : List Argument) (d : Argument) →
    meant_by p n (give_all (map param_data params) (arguments_meant x p (arguments (map argument_view args)) sub))
    ≡ option_map_or (λ i. meant x p (expr_view (get_or args i d).value) sub) (position (λ q. bytes_eq n q.name) (take (length args) params)) (meant_by p n [])
bound-meant x p sub n [] [] d = refl
bound-meant x p sub n [] (a ∷ args) d = refl
bound-meant x p sub n (q ∷ params) [] d = refl
bound-meant x p sub n (q ∷ params) (a ∷ args) d =
    ap (λ t. cond (bytes_eq n q.name) (argument_meant x p t sub) (meant_by p n (give_all (map param_data params) (arguments_meant x p (arguments (map argument_view args)) sub)))) (argument-views a)
    ∙ ap (λ y. cond (bytes_eq n q.name) (meant x p (expr_view a.value) sub) y) (bound-meant x p sub n params args d)
    ∙ bound-cond Meant (bytes_eq n q.name) (λ i. meant x p (expr_view (get_or (a ∷ args) i d).value) sub) (λ i. meant x p (expr_view (get_or args i d).value) sub) _ _ _ refl (λ i. ap (λ j. meant x p (expr_view (get_or (a ∷ args) j d).value) sub) (let z : i + 1 ≡ suc i = omega arith in z))
    ∙ ap (λ o. option_map_or (λ i. meant x p (expr_view (get_or (a ∷ args) i d).value) sub) o (meant_by p n [])) (sym (position-cons (λ r. bytes_eq n r.name) q (take (length args) params)))

pub bound-cost : (c : MacroCosts) (p : ProblemData) (env : CostEnv) (n : List ℕ) (params : List ParamDef) (args : List Argument) (d : Argument) →
    cost_by n (price_all (map param_data params) (costs c p (arguments (map argument_view args)) env))
    ≡ option_map_or (λ i. cost c p (expr_view (get_or args i d).value) env) (position (λ q. bytes_eq n q.name) (take (length args) params)) 0
bound-cost c p env n [] [] d = refl
bound-cost c p env n [] (a ∷ args) d = refl
bound-cost c p env n (q ∷ params) [] d = refl
bound-cost c p env n (q ∷ params) (a ∷ args) d =
    ap (λ t. cond (bytes_eq n q.name) (argument_cost c p t env) (cost_by n (price_all (map param_data params) (costs c p (arguments (map argument_view args)) env)))) (argument-views a)
    ∙ ap (λ y. cond (bytes_eq n q.name) (cost c p (expr_view a.value) env) y) (bound-cost c p env n params args d)
    ∙ bound-cond ℕ (bytes_eq n q.name) (λ i. cost c p (expr_view (get_or (a ∷ args) i d).value) env) (λ i. cost c p (expr_view (get_or args i d).value) env) _ _ _ refl (λ i. ap (λ j. cost c p (expr_view (get_or (a ∷ args) j d).value) env) (let z : i + 1 ≡ suc i = omega arith in z))
    ∙ ap (λ o. option_map_or (λ i. cost c p (expr_view (get_or (a ∷ args) i d).value) env) o 0) (sym (position-cons (λ r. bytes_eq n r.name) q (take (length args) params)))

pub unbound-meant : (x : Expansions) (p : ProblemData) (sub : Subst) (n : List ℕ) (params : List ParamDef) (args : List Argument) → position (λ q. bytes_eq n q.name) (take (length args) params) ≡ None →
    meant_by p n (give_all (map param_data params) (arguments_meant x p (arguments (map argument_view args)) sub)) ≡ meant_by p n []
unbound-meant x p sub n [] args e = refl
unbound-meant x p sub n (q ∷ params) [] e = refl
unbound-meant x p sub n (q ∷ params) (a ∷ args) e =
    bound-meant x p sub n (q ∷ params) (a ∷ args) a
    ∙ ap (λ o. option_map_or (λ i. meant x p (expr_view (get_or (a ∷ args) i a).value) sub) o (meant_by p n [])) e

pub unbound-cost : (c : MacroCosts) (p : ProblemData) (env : CostEnv) (n : List ℕ) (params : List ParamDef) (args : List Argument) → position (λ q. bytes_eq n q.name) (take (length args) params) ≡ None →
    cost_by n (price_all (map param_data params) (costs c p (arguments (map argument_view args)) env)) ≡ 0
unbound-cost c p env n [] args e = refl
unbound-cost c p env n (q ∷ params) [] e = refl
unbound-cost c p env n (q ∷ params) (a ∷ args) e =
    bound-cost c p env n (q ∷ params) (a ∷ args) a
    ∙ ap (λ o. option_map_or (λ i. cost c p (expr_view (get_or (a ∷ args) i a).value) env) o 0) e

pub prices-parameters : (p : ProblemData) (params : Bor (List ParamDef)) (args : Bor (List Argument)) (caller : Bor Scope) (n : ℕ) →
    prices p (Parameters params args caller n) ≡ price_all (map param_data params.now) (costs (costs_of p n) p (arguments (map argument_view args.now)) (prices p caller.now))
prices-parameters p params args caller n = ap (prices p) (sym (rolls-Parameters params args caller n)) ∙ fold-roll-Scope CostEnv (price_layer p) (Scope-F.Parameters params args caller n)

-- ---- what a scope stands for, variant by variant

pub objects-seen : (p : ProblemData) {s : Scope} → s ≡ Objects → scope_view p s ≡ []
objects-seen p h = rw h (ap (scope_view p) (sym rolls-Objects) ∙ fold-roll-Scope Subst (scope_layer p) Scope-F.Objects)

pub parameters-seen : (p : ProblemData) {s : Scope} (params : Bor (List ParamDef)) (args : Bor (List Argument)) (caller : Bor Scope) (n : ℕ) → s ≡ Parameters params args caller n →
    scope_view p s ≡ give_all (map param_data params.now) (arguments_meant (expansions_of p n) p (arguments (map argument_view args.now)) (scope_view p caller.now))
parameters-seen p params args caller n h = rw h (ap (scope_view p) (sym (rolls-Parameters params args caller n)) ∙ fold-roll-Scope Subst (scope_layer p) (Scope-F.Parameters params args caller n))

pub variable-seen : (p : ProblemData) (outer : Bor Scope) (own : Bor Name) (n : ℕ) → scope_view p (Variable outer own n) ≡ give own.now (a_subject (subjects.Variable n)) (scope_view p outer.now)
variable-seen p outer own n = ap (scope_view p) (sym (rolls-Variable outer own n)) ∙ fold-roll-Scope Subst (scope_layer p) (Scope-F.Variable outer own n)

variable-priced : (p : ProblemData) (outer : Bor Scope) (own : Bor Name) (n : ℕ) → prices p (Variable outer own n) ≡ price own.now 0 (prices p outer.now)
variable-priced p outer own n = ap (prices p) (sym (rolls-Variable outer own n)) ∙ fold-roll-Scope CostEnv (price_layer p) (Scope-F.Variable outer own n)

-- the name of the innermost variable
pub own-meant : (p : ProblemData) (name : List ℕ) {s : Scope} (outer : Bor Scope) (own : Bor Name) (n : ℕ) → s ≡ Variable outer own n → bytes_eq name own.now ≡ true →
    a_subject (subjects.Variable n) ≡ meant_by p name (scope_view p s)
own-meant p name outer own n h e =
    rw h (sym (ap (meant_by p name) (variable-seen p outer own n) ∙ ap (λ b. cond b (a_subject (subjects.Variable n)) (meant_by p name (scope_view p outer.now))) e))

-- another name
pub outer-meant : (p : ProblemData) (name : List ℕ) {s : Scope} (outer : Bor Scope) (own : Bor Name) (n : ℕ) → s ≡ Variable outer own n → bytes_eq name own.now ≡ false →
    meant_by p name (scope_view p outer.now) ≡ meant_by p name (scope_view p s)
outer-meant p name outer own n h e =
    rw h (sym (ap (meant_by p name) (variable-seen p outer own n) ∙ ap (λ b. cond b (a_subject (subjects.Variable n)) (meant_by p name (scope_view p outer.now))) e))

pub outer-cost : (p : ProblemData) (name : List ℕ) {s : Scope} (outer : Bor Scope) (own : Bor Name) (n : ℕ) → s ≡ Variable outer own n → bytes_eq name own.now ≡ false →
    cost_by name (prices p outer.now) ≡ cost_by name (prices p s)
outer-cost p name outer own n h e = rw h (sym (ap (cost_by name) (variable-priced p outer own n) ∙ ap (λ b. cond b 0 (cost_by name (prices p outer.now))) e))

-- a cost that is that of what is given, and of a name that is given
pub at-most : (a : ℕ) {b c : ℕ} → a ≤ b → b ≡ c → a ≤ c
at-most a h e = subst (λ (x : ℕ). a ≤ x) e h

pub at-most-given : (a : ℕ) {c : ℕ} → c ≡ a → a ≤ c
at-most-given a e = omega arith

pub at-most-passed : (a : ℕ) {b c : ℕ} → a ≤ b → c ≡ 1 + b → a ≤ c
at-most-passed a h e = omega arith
