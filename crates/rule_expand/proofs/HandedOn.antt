-- A call of a macro that hands a parameter on is the argument for it.
use Rattle.std.proofs.Common.{◌≡◌, ℕ, zero, suc, ◌+◌, ◌<◌, ◌≤◌, Bool, true, false, cond, List, [], ◌∷◌, ◌++◌, length, take, map, get_or, sum, ⊎_elim, sym, ap, ◌∙◌, refl, arith, subst, length-append}
use Rattle.std.proofs.lemmas.Bool.{cases_lt}
use Rattle.std.proofs.lemmas.List.{get_or_append_left}
use Rattle.std.specs.Prelude.{Option, None, Some, MatchOption}
use Rattle.std.specs.Option.{option_map_or, option_map}
use Rattle.std.specs.List.{position, fold}
use Rattle.std.specs.Str.{bytes_eq}
use Rattle.rule_syntax.specs.declared.tree.Argument.{Argument}
use Rattle.rule_syntax.specs.declared.tree.PlacedName.{PlacedName}
use Rattle.rule_syntax.specs.Tree.{ExprTree, param, value_call, arguments}
use Rattle.rule_syntax.specs.View.{argument_view, expr_view}
use Rattle.problem_data.specs.Problem.{MacroData, ProblemData}
use Rattle.problem_data.specs.Tree.{equals}
use Rattle.problem_data.specs.Truth.{macro_of}
use Rattle.problem_data.specs.ProblemView.{param_data}
use Rattle.problem_data.specs.Value.{macro_position}
use Rattle.problem_data.specs.declared.problem.ParamDef.{ParamDef}
use Rattle.rule_expand.specs.Plain as plain
use Rattle.rule_expand.specs.Expansion.{Meant, Subst, Expansions, as_expr, meant_by, meant, argument_meant, arguments_meant, give_all, body_expr, expansions_of, expr_expanded}
use Rattle.rule_expand.specs.Costs.{CostEnv, MacroCosts, cost, argument_cost, costs}
use Rattle.rule_expand.specs.Handed.{nth_meant, HandsOn, AreHanded, IsHandedIndex}
use Rattle.std.proofs.Math.Seq.{get_or-append_seam}
use Rattle.rule_expand.proofs.Scopes.{argument-views, position-cons}
use Rattle.rule_expand.proofs.Called.{number-called}

-- ---- arguments

fold-from : (a : ℕ) (xs : List ℕ) → fold ◌+◌ a xs ≡ a + fold ◌+◌ 0 xs
fold-from a [] = omega arith
fold-from a (x ∷ xs) = omega (arith, fold-from (a + x) xs, fold-from (0 + x) xs)

sum-cons : (x : ℕ) (xs : List ℕ) → sum (x ∷ xs) ≡ x + sum xs
sum-cons x xs = let e : sum (x ∷ xs) ≡ (0 + x) + sum xs = fold-from (0 + x) xs in omega (arith, e)

first-below : (x : ℕ) (xs : List ℕ) → x ≤ sum (x ∷ xs)
first-below x xs = omega (arith, sum-cons x xs)

rest-below : (x y : ℕ) (xs : List ℕ) → y ≤ sum xs → y ≤ sum (x ∷ xs)
rest-below x y xs h = omega (arith, sum-cons x xs)

pub argument-costs : (c : MacroCosts) (p : ProblemData) (env : CostEnv) (args : List Argument) (i : ℕ) (d : Argument) → i < length args →
    cost c p (expr_view (get_or args i d).value) env ≤ sum (costs c p (arguments (map argument_view args)) env)
argument-costs c p env [] i d h = absurd (omega arith)
argument-costs c p env (a ∷ args) zero d h =
    subst (λ (n : ℕ). n ≤ sum (costs c p (arguments (map argument_view (a ∷ args))) env)) (ap (λ t. argument_cost c p t env) (argument-views a)) (first-below (argument_cost c p (argument_view a) env) (costs c p (arguments (map argument_view args)) env))
argument-costs c p env (a ∷ args) (suc i) d h = rest-below (argument_cost c p (argument_view a) env) _ (costs c p (arguments (map argument_view args)) env) (argument-costs c p env args i d (omega arith))

pub argument-counts : (x : Expansions) (p : ProblemData) (sub : Subst) (args : List Argument) → length (arguments_meant x p (arguments (map argument_view args)) sub) ≡ length args
argument-counts x p sub [] = refl
argument-counts x p sub (a ∷ args) = ap suc (argument-counts x p sub args)

pub argument-meant : (x : Expansions) (p : ProblemData) (sub : Subst) (args : List Argument) (i : ℕ) (d : Argument) → i < length args →
    nth_meant (arguments_meant x p (arguments (map argument_view args)) sub) i ≡ meant x p (expr_view (get_or args i d).value) sub
argument-meant x p sub [] i d h = absurd (omega arith)
argument-meant x p sub (a ∷ args) zero d h = ap (λ t. argument_meant x p t sub) (argument-views a)
argument-meant x p sub (a ∷ args) (suc i) d h = argument-meant x p sub args i d (omega arith)

-- ---- parameters

param-found : (p : ProblemData) (n : List ℕ) (q : ParamDef) (params : List ParamDef) (m : Meant) (ms : List Meant) (i : ℕ) (b : Bool) (o : Option ℕ) →
    bytes_eq n q.name ≡ b → position (λ r. bytes_eq n r.name) params ≡ o → cond b (Some 0) (option_map (λ j. j + 1) o) ≡ Some i → i < suc (length ms) →
    ((j : ℕ) → position (λ r. bytes_eq n r.name) params ≡ Some j → j < length ms → meant_by p n (give_all (map param_data params) ms) ≡ nth_meant ms j) →
    cond b m (meant_by p n (give_all (map param_data params) ms)) ≡ nth_meant (m ∷ ms) i
param-found p n q params m ms zero true o t f e h ih = refl
param-found p n q params m ms (suc i) true o t f e h ih = cc
param-found p n q params m ms i false None t f e h ih = cc
param-found p n q params m ms zero false (Some j) t f e h ih = let z : j + 1 ≡ 0 = cc in absurd (omega (arith, z))
param-found p n q params m ms (suc i) false (Some j) t f e h ih =
    let z : j + 1 ≡ suc i = cc in
    let y : j ≡ i = omega (arith, z) in
    ih i (f ∙ ap Some y) (omega arith)

-- a parameter is the argument at its position
param-meant : (p : ProblemData) (n : List ℕ) (params : List ParamDef) (ms : List Meant) (i : ℕ) → position (λ q. bytes_eq n q.name) params ≡ Some i → i < length ms →
    meant_by p n (give_all (map param_data params) ms) ≡ nth_meant ms i
param-meant p n [] ms i e h = cc
param-meant p n (q ∷ params) [] i e h = absurd (omega arith)
param-meant p n (q ∷ params) (m ∷ ms) i e h =
    param-found p n q params m ms i (bytes_eq n q.name) _ refl refl (sym (position-cons (λ r. bytes_eq n r.name) q params) ∙ e) h (λ j f g. param-meant p n params ms j f g)

take-whole : {A : Type 0} (xs : List A) → take (length xs) xs ≡ xs
take-whole [] = refl
take-whole (x ∷ xs) = ap (λ ys. x ∷ ys) (take-whole xs)

pub param-handed : (p : ProblemData) (n : List ℕ) (params : List ParamDef) (ms : List Meant) (i : ℕ) → position (λ q. bytes_eq n q.name) (take (length params) params) ≡ Some i → i < length ms →
    as_expr (meant_by p n (give_all (map param_data params) ms)) ≡ as_expr (nth_meant ms i)
param-handed p n params ms i e h = ap as_expr (param-meant p n params ms i (sym (ap (position (λ q. bytes_eq n q.name)) (take-whole params)) ∙ e) h)

-- ---- calls

-- a call of a macro that hands a parameter on
pub call-handed : (p : ProblemData) (handed : List (Option ℕ)) (x : Expansions) (n k i : ℕ) (name : List ℕ) (sub : Subst) (args : List Argument) (d : Argument) →
    AreHanded p handed → IsHandedIndex handed k (length args) i → macro_position p name ≡ Some k → k < n →
    option_map_or (λ j. (expansions_of p n).number j (arguments_meant x p (arguments (map argument_view args)) sub)) (macro_position p name) (plain.number 0)
    ≡ expr_expanded x p (expr_view (get_or args i d).value) sub
call-handed p handed x n k i name sub args d a h e l =
    let ms = arguments_meant x p (arguments (map argument_view args)) sub in
    let c = h.counted in
    ap (λ o. option_map_or (λ j. (expansions_of p n).number j ms) o (plain.number 0)) e
    ∙ a.at k i h.inside h.is n ms l (omega (arith, argument-counts x p sub args))
    ∙ ap as_expr (argument-meant x p sub args i d c)

-- ---- what an expression hands on

-- the parameter is what the expression becomes
abbrev pub IsHanded : ProblemData → Expansions → List ParamDef → ExprTree → Option ℕ → Type 0
IsHanded p x params e o = MatchOption o (Unit {0}) (λ i. (ms : List Meant) → i < length ms → expr_expanded x p e (give_all (map param_data params) ms) ≡ as_expr (nth_meant ms i))

pub param-case : (p : ProblemData) (x : Expansions) (a : PlacedName) (params : List ParamDef) (o : Option ℕ) → o ≡ position (λ q. bytes_eq a.name q.name) (take (length params) params) → IsHanded p x params (param a) o
param-case p x a params None e = tt
param-case p x a params (Some i) e = λ ms h. param-handed p a.name params ms i (sym e) h

pub call-case : (p : ProblemData) (handed : List (Option ℕ)) (k i place : ℕ) (m : PlacedName) (params : List ParamDef) (args : List Argument) (d : Argument) (o : Option ℕ) →
    AreHanded p handed → IsHandedIndex handed k (length args) i → macro_position p m.name ≡ Some k →
    IsHanded p (expansions_of p (length handed)) params (expr_view (get_or args i d).value) o →
    IsHanded p (expansions_of p (length handed)) params (value_call place m (arguments (map argument_view args))) o
call-case p handed k i place m params args d None a h e ih = tt
call-case p handed k i place m params args d (Some j) a h e ih = λ ms l.
    call-handed p handed (expansions_of p (length handed)) (length handed) k i m.name (give_all (map param_data params) ms) args d a h e h.inside ∙ ih ms l

-- ---- the list of what macros hand on

pub hands-on : (p : ProblemData) (k : ℕ) (e : ExprTree) (m : MacroData) (params : List ParamDef) (o : Option ℕ) → m ≡ macro_of p k → equals e ≡ m.body → map param_data params ≡ m.params →
    IsHanded p (expansions_of p k) params e o → MatchOption o (Unit {0}) (λ i. HandsOn p k i)
hands-on p k e m params None f g h ih = tt
hands-on p k e m params (Some i) f g h ih = λ n ms l c.
    number-called p n k ms l
    ∙ sym (ap (λ b. body_expr (expansions_of p k) p b (give_all (macro_of p k).params ms)) (g ∙ ap (λ x. x.body) f))
    ∙ sym (ap (λ q. expr_expanded (expansions_of p k) p e (give_all q ms)) (h ∙ ap (λ x. x.params) f))
    ∙ ih ms c

handed-at : (p : ProblemData) (k i : ℕ) (o : Option ℕ) → o ≡ Some i → MatchOption o (Unit {0}) (λ j. HandsOn p k j) → HandsOn p k i
handed-at p k i None e h = cc
handed-at p k i (Some j) e h = subst (λ (x : Option ℕ). MatchOption x (Unit {0}) (λ y. HandsOn p k y)) e h

pub none-handed : (p : ProblemData) → AreHanded p []
none-handed p = record { at = λ k i l e. absurd (omega arith) }

-- one macro more
pub one-more : (p : ProblemData) (hs : List (Option ℕ)) (o : Option ℕ) → AreHanded p hs → MatchOption o (Unit {0}) (λ i. HandsOn p (length hs) i) → AreHanded p (hs ++ o ∷ [])
one-more p hs o a h = record {
  at = λ k i l e.
      ⊎_elim (λ inside. a.at k i inside (sym (get_or_append_left hs (o ∷ []) None k inside) ∙ e))
      (λ last.
      let k' : k ≡ length hs = omega (arith, l, last, length-append hs (o ∷ [])) in
      let e' : get_or (hs ++ o ∷ []) (length hs) None ≡ Some i = ap (λ x. get_or (hs ++ o ∷ []) x None) (sym k') ∙ e in
      subst (λ (x : ℕ). HandsOn p x i) (sym k') (handed-at p (length hs) i o (sym (get_or-append_seam hs o [] None) ∙ e') h))
      (cases_lt k (length hs));
}

-- the same where the lists are known to be equal
pub one-more-as : (p : ProblemData) (hs seen more : List (Option ℕ)) (o : Option ℕ) → seen ≡ hs → more ≡ hs ++ o ∷ [] → AreHanded p hs → MatchOption o (Unit {0}) (λ i. HandsOn p (length seen) i) → AreHanded p more
one-more-as p hs seen more o e f a h =
    subst (λ (x : List (Option ℕ)). AreHanded p x) (sym f) (one-more p hs o a (subst (λ (x : List (Option ℕ)). MatchOption o (Unit {0}) (λ i. HandsOn p (length x) i)) e h))

pub one-counted : (hs more : List (Option ℕ)) (o : Option ℕ) (n : ℕ) → length hs ≡ n → more ≡ hs ++ o ∷ [] → length more ≡ n + 1
one-counted hs more o n e f = omega (arith, e, ap length f, length-append hs (o ∷ []))
