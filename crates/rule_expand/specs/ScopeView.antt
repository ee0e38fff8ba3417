-- What the names in sight of the program stand for.
use Rattle.std.specs.Prelude.{◌≡◌, ℕ, ◌<◌, List, [], map, Some}
use Rattle.std.specs.Option.{option_map_or}
use Rattle.rule_syntax.specs.Tree.{ExprTree, arguments}
use Rattle.rule_syntax.specs.View.{expr_view, argument_view, formula_view}
use Rattle.problem_data.specs.Problem.{ProblemData}
use Rattle.problem_data.specs.ProblemView.{param_data}
use Rattle.problem_data.specs.Value.{macro_position}
use Rattle.rule_expand.specs.Plain as plain
use Rattle.rule_expand.specs.Expansion.{Meant, an_expr, a_subject, Subst, Expansions, give, give_all, meant, arguments_meant, expr_expanded, formula_expanded, expansions_of}
use Rattle.rule_expand.specs.Costs.{CostEnv, price, price_all, cost, costs, costs_of, formula_cost, formula_costs_of}
use Rattle.rule_expand.specs.declared.plain.Subject.TheVariants as subjects
use Rattle.rule_expand.specs.declared.scope.Scope.{Scope}
use Rattle.rule_expand.specs.declared.scope.Scope.TheOpen.{Scope-F}
use Rattle.rule_expand.specs.declared.scope.Scope.TheFolds.{fold-Scope}
use Rattle.rule_expand.specs.declared.scope.Found.{Found}
use Rattle.rule_expand.specs.declared.scope.Found.TheVariants as found_as
use Rattle.rule_expand.specs.declared.scope.ValueMacro.{ValueMacro}
use Rattle.rule_expand.specs.declared.scope.FormulaMacro.{FormulaMacro}

abbrev pub scope_layer : ProblemData → Scope-F Subst → Subst
scope_layer p Scope-F.Objects = []
scope_layer p (Scope-F.Variable outer name number) = give name.now (a_subject (subjects.Variable number)) outer.now
scope_layer p (Scope-F.Parameters params args caller n) = give_all (map param_data params.now) (arguments_meant (expansions_of p n) p (arguments (map argument_view args.now)) caller.now)

abbrev pub scope_view : ProblemData → Scope → Subst
scope_view p = fold-Scope Subst (scope_layer p)

abbrev pub price_layer : ProblemData → Scope-F CostEnv → CostEnv
price_layer p Scope-F.Objects = []
price_layer p (Scope-F.Variable outer name number) = price name.now 0 outer.now
price_layer p (Scope-F.Parameters params args caller n) = price_all (map param_data params.now) (costs (costs_of p n) p (arguments (map argument_view args.now)) caller.now)

abbrev pub prices : ProblemData → Scope → CostEnv
prices p = fold-Scope CostEnv (price_layer p)

-- an expression that is no bare name becomes an expression
abbrev pub IsNoName : ExprTree → Type 0
IsNoName e = (x : Expansions) (p : ProblemData) (sub : Subst) → meant x p e sub ≡ an_expr (expr_expanded x p e sub)

abbrev pub found_meant : ProblemData → Found → Meant
found_meant p (found_as.Subject s) = a_subject s
found_meant p (found_as.Argument e caller n) = an_expr (expr_expanded (expansions_of p n) p (expr_view e.now) (scope_view p caller.now))
found_meant p found_as.Nothing = an_expr (plain.number 0)

abbrev pub found_cost : ProblemData → Found → ℕ
found_cost p (found_as.Subject s) = 0
found_cost p (found_as.Argument e caller n) = cost (costs_of p n) p (expr_view e.now) (prices p caller.now)
found_cost p found_as.Nothing = 0

-- a call of the name, where n macros are in sight, is this macro's body
pub record IsValueMacro (p : ProblemData) (n : ℕ) (name : List ℕ) (v : ValueMacro) : Type 0 where
  pub at : macro_position p name ≡ Some v.index
  pub in_sight : v.index < n
  pub expands : (ms : List Meant) → option_map_or (λ k. (expansions_of p n).number k ms) (macro_position p name) (plain.number 0) ≡ expr_expanded (expansions_of p v.index) p (expr_view v.body.now) (give_all (map param_data v.params.now) ms)
  pub ends : (ks : List ℕ) → option_map_or (λ k. costs_of p n k ks) (macro_position p name) 0 ≡ cost (costs_of p v.index) p (expr_view v.body.now) (price_all (map param_data v.params.now) ks)

-- a call of the name is no macro that gives a number
abbrev pub IsNoValueMacro : ProblemData → ℕ → List ℕ → Type 0
IsNoValueMacro p n name = (ms : List Meant) → option_map_or (λ k. (expansions_of p n).number k ms) (macro_position p name) (plain.number 0) ≡ plain.number 0

pub record IsFormulaMacro (p : ProblemData) (n : ℕ) (name : List ℕ) (v : FormulaMacro) : Type 0 where
  pub expands : (ms : List Meant) (next : ℕ) → option_map_or (λ k. (expansions_of p n).truth_of k ms next) (macro_position p name) plain.falsehood ≡ formula_expanded (expansions_of p v.index) p (formula_view v.body.now) (give_all (map param_data v.params.now) ms) next
  pub ends : option_map_or (formula_costs_of p n) (macro_position p name) 0 ≡ formula_cost (formula_costs_of p v.index) p (formula_view v.body.now)

abbrev pub IsNoFormulaMacro : ProblemData → ℕ → List ℕ → Type 0
IsNoFormulaMacro p n name = (ms : List Meant) (next : ℕ) → option_map_or (λ k. (expansions_of p n).truth_of k ms next) (macro_position p name) plain.falsehood ≡ plain.falsehood
