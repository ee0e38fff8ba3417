-- Names that are right in a problem are right in one with some of its rules.
use Rattle.std.proofs.Common.{◌≡◌, ◌<◌, ◌==◌, ℕ, zero, suc, Bool, not, List, [], ◌∷◌, ◌++◌, length, if◌then◌else◌, get_or, map, refl, sym, ap, ◌∙◌, subst, arith}
use Rattle.std.specs.Prelude.{All, ◌||◌, false, true, is_some, Option, None, Some}
use Rattle.std.specs.Option.{option_map_or}
use Rattle.std.specs.List.{Contains, list_any}
use Rattle.std.specs.Str.{bytes_eq}
use Rattle.rule_syntax.specs.declared.tree.PlacedName.{PlacedName}
use Rattle.rule_syntax.specs.Tree.{ExprTree, number, field, param, shape_number, negative, sum, product, least, greatest, value_call, SumTree, plus, minus, SumTrees, no_sums, a_sum, ProductTree, times, over, modulo, ProductTrees, no_products, a_product, ArgumentTree, argument, ArgumentTrees, no_arguments, an_argument, CollTree, all_objects, listed, boxes_of, FormulaTree, truth, falsehood, negation, all_of, any_of, implication, equivalence, comparison, quantified, formula_call, FormulaTrees, no_formulas, a_formula}
use Rattle.problem_data.specs.declared.tree.ParamKind.{ParamKind}
use Rattle.problem_data.specs.declared.tree.ParamKind.TheVariants as kinds
use Rattle.problem_data.specs.Problem.{ParamData, MacroData, DemandData, apart, within, plain, RuleData, ProblemData}
use Rattle.problem_data.specs.Tree.{BodyTree, means, equals}
use Rattle.problem_data.specs.Value.{object_position}
use Rattle.problem_data.specs.SomeRules.{no_rule, AreRules, with_rules}
use Rattle.problem_data.proofs.SomeRules.{all_kept}
use Rattle.rule_names.specs.declared.mistake.Mistake.{Mistake}
use Rattle.rule_names.specs.declared.mistake.Flaw.TheVariants.{UnknownName, RepeatedName, WrongKind, WrongCount}
use Rattle.rule_names.specs.Mistakes.{mistake, mistake_if}
use Rattle.rule_names.specs.Sight.{Sight, binding, kind_of, same_kind, macro_called}
use Rattle.rule_names.specs.Names.{field_of_kind, field_mistakes, bare_mistakes, kind_given, passed_mistakes, all_passed, argument_count, is_formula, differs, call_of_macro, call_mistakes, expr_mistakes, sum_mistakes, sums_mistakes, product_mistakes, products_mistakes, argument_mistakes, arguments_mistakes, listed_mistakes, boxes_mistakes, coll_mistakes, element_kind, formula_mistakes, formulas_mistakes, body_mistakes, macros_mistakes, demand_mistakes, rules_mistakes, mistakes}
use Rattle.rule_names.specs.Answers.{AreNamesRight}

module _ (p : ProblemData) (rs : List RuleData) where
  abbrev pub other : ProblemData
  other = record p { rules = rs }

  kind_same : (s : Sight) (n : List ℕ) → kind_of other s n ≡ kind_of p s n
  kind_same [] n = refl
  kind_same (q ∷ outer) n = λ i. if bytes_eq n q.name then Some q.kind else kind_same outer n i

  of_kind_same : (k : Option ParamKind) (a : PlacedName) (dot : ℕ) (f : PlacedName) → field_of_kind other k a dot f ≡ field_of_kind p k a dot f
  of_kind_same None a dot f = refl
  of_kind_same (Some kinds.Int) a dot f = refl
  of_kind_same (Some kinds.Object) a dot f = refl
  of_kind_same (Some kinds.Box) a dot f = refl

  field_same : (s : Sight) (a : PlacedName) (dot : ℕ) (f : PlacedName) → field_mistakes other s a dot f ≡ field_mistakes p s a dot f
  field_same s a dot f = of_kind_same (kind_of other s a.name) a dot f ∙ ap (λ (k : Option ParamKind). field_of_kind p k a dot f) (kind_same s a.name)

  bare_same : (s : Sight) (any_kind : Bool) (a : PlacedName) → bare_mistakes other s any_kind a ≡ bare_mistakes p s any_kind a
  bare_same s any_kind a = ap (λ (o : Option ParamKind). option_map_or (λ k. mistake_if (not (any_kind || same_kind k kinds.Int)) a.place WrongKind) o (mistake a.place UnknownName ∷ [])) (kind_same s a.name)

  -- ---- calls

  given_same : (s : Sight) (e : ExprTree) → kind_given other s e ≡ kind_given p s e
  given_same s (number place n) = refl
  given_same s (field a dot f) = refl
  given_same s (param a) = kind_same s a.name
  given_same s (shape_number place a) = refl
  given_same s (negative place e) = refl
  given_same s (sum place e steps) = refl
  given_same s (product place e steps) = refl
  given_same s (least place a b) = refl
  given_same s (greatest place a b) = refl
  given_same s (value_call place m args) = refl

  passed_same : (s : Sight) (q : ParamData) (a : ArgumentTree) → passed_mistakes other s q a ≡ passed_mistakes p s q a
  passed_same s q (argument place e) = ap (λ (o : Option ParamKind). option_map_or (λ k. mistake_if (not (same_kind k q.kind)) place WrongKind) o []) (given_same s e)

  all_passed_same : (s : Sight) (params : List ParamData) (args : ArgumentTrees) → all_passed other s params args ≡ all_passed p s params args
  all_passed_same s [] args = refl
  all_passed_same s (q ∷ params) no_arguments = refl
  all_passed_same s (q ∷ params) (an_argument a rest) = λ i. passed_same s q a i ++ all_passed_same s params rest i

  of_macro_same : (s : Sight) (formula : Bool) (place : ℕ) (args : ArgumentTrees) (d : MacroData) → call_of_macro other s formula place args d ≡ call_of_macro p s formula place args d
  of_macro_same s formula place args d = λ i.
      mistake_if (differs formula (is_formula d.body)) place WrongKind ++ mistake_if (not (argument_count args == length d.params)) place WrongCount ++ all_passed_same s d.params args i

  call_same : (n : ℕ) (s : Sight) (formula : Bool) (place : ℕ) (m : PlacedName) (args : ArgumentTrees) → call_mistakes other n s formula place m args ≡ call_mistakes p n s formula place m args
  call_same n s formula place m args = λ i. option_map_or (λ d. of_macro_same s formula place args d i) (macro_called p n m.name) (mistake m.place UnknownName ∷ [])

  -- ---- expressions

  mutual
    expr_same : (n : ℕ) (s : Sight) (any_kind : Bool) (e : ExprTree) → expr_mistakes other n s any_kind e ≡ expr_mistakes p n s any_kind e
    expr_same n s any_kind (number place v) = refl
    expr_same n s any_kind (field a dot f) = field_same s a dot f
    expr_same n s any_kind (param a) = bare_same s any_kind a
    expr_same n s any_kind (shape_number place a) = refl
    expr_same n s any_kind (negative place e) = expr_same n s false e
    expr_same n s any_kind (sum place e steps) = λ i. expr_same n s false e i ++ sums_same n s steps i
    expr_same n s any_kind (product place e steps) = λ i. expr_same n s false e i ++ products_same n s steps i
    expr_same n s any_kind (least place a b) = λ i. expr_same n s false a i ++ expr_same n s false b i
    expr_same n s any_kind (greatest place a b) = λ i. expr_same n s false a i ++ expr_same n s false b i
    expr_same n s any_kind (value_call place m args) = λ i. call_same n s false place m args i ++ arguments_same n s args i

    sum_same : (n : ℕ) (s : Sight) (x : SumTree) → sum_mistakes other n s x ≡ sum_mistakes p n s x
    sum_same n s (plus e) = expr_same n s false e
    sum_same n s (minus e) = expr_same n s false e

    sums_same : (n : ℕ) (s : Sight) (x : SumTrees) → sums_mistakes other n s x ≡ sums_mistakes p n s x
    sums_same n s no_sums = refl
    sums_same n s (a_sum step rest) = λ i. sum_same n s step i ++ sums_same n s rest i

    product_same : (n : ℕ) (s : Sight) (x : ProductTree) → product_mistakes other n s x ≡ product_mistakes p n s x
    product_same n s (times e) = expr_same n s false e
    product_same n s (over place v) = refl
    product_same n s (modulo place v) = refl

    products_same : (n : ℕ) (s : Sight) (x : ProductTrees) → products_mistakes other n s x ≡ products_mistakes p n s x
    products_same n s no_products = refl
    products_same n s (a_product step rest) = λ i. product_same n s step i ++ products_same n s rest i

    argument_same : (n : ℕ) (s : Sight) (x : ArgumentTree) → argument_mistakes other n s x ≡ argument_mistakes p n s x
    argument_same n s (argument place e) = expr_same n s true e

    arguments_same : (n : ℕ) (s : Sight) (x : ArgumentTrees) → arguments_mistakes other n s x ≡ arguments_mistakes p n s x
    arguments_same n s no_arguments = refl
    arguments_same n s (an_argument a rest) = λ i. argument_same n s a i ++ arguments_same n s rest i

  -- ---- formulas

  listed_same : (before : List (List ℕ)) (names : List PlacedName) → listed_mistakes other before names ≡ listed_mistakes p before names
  listed_same before [] = refl
  listed_same before (a ∷ rest) = λ i. mistake_if (not (is_some (object_position p a.name))) a.place UnknownName ++ mistake_if (list_any (bytes_eq a.name) before) a.place RepeatedName ++ listed_same (before ++ a.name ∷ []) rest i

  coll_same : (s : Sight) (coll : CollTree) → coll_mistakes other s coll ≡ coll_mistakes p s coll
  coll_same s all_objects = refl
  coll_same s (listed names) = listed_same [] names
  coll_same s (boxes_of a) = ap (λ (o : Option ParamKind). option_map_or (λ k. mistake_if (not (same_kind k kinds.Object)) a.place WrongKind) o (mistake a.place UnknownName ∷ [])) (kind_same s a.name)

  mutual
    formula_same : (n : ℕ) (s : Sight) (f : FormulaTree) → formula_mistakes other n s f ≡ formula_mistakes p n s f
    formula_same n s (truth place) = refl
    formula_same n s (falsehood place) = refl
    formula_same n s (negation place f) = formula_same n s f
    formula_same n s (all_of place fs) = formulas_same n s fs
    formula_same n s (any_of place fs) = formulas_same n s fs
    formula_same n s (implication place f g) = λ i. formula_same n s f i ++ formula_same n s g i
    formula_same n s (equivalence place f g) = λ i. formula_same n s f i ++ formula_same n s g i
    formula_same n s (comparison place a rel b) = λ i. expr_same n s false a i ++ expr_same n s false b i
    formula_same n s (quantified place kind v coll f) = λ i. coll_same s coll i ++ formula_same n (binding v.name (element_kind coll) s) f i
    formula_same n s (formula_call place m args) = λ i. call_same n s true place m args i ++ arguments_same n s args i

    formulas_same : (n : ℕ) (s : Sight) (fs : FormulaTrees) → formulas_mistakes other n s fs ≡ formulas_mistakes p n s fs
    formulas_same n s no_formulas = refl
    formulas_same n s (a_formula f rest) = λ i. formula_same n s f i ++ formulas_same n s rest i

  -- ---- statements

  body_same : (n : ℕ) (s : Sight) (b : BodyTree) → body_mistakes other n s b ≡ body_mistakes p n s b
  body_same n s (means f) = formula_same n s f
  body_same n s (equals e) = expr_same n s false e

  macros_same : (ds : List MacroData) → macros_mistakes other ds ≡ macros_mistakes p ds
  macros_same [] = refl
  macros_same (d ∷ rest) = λ i. body_same d.place d.params d.body i ++ macros_same rest i

  demand_same : (n : ℕ) (d : DemandData) → demand_mistakes other n d ≡ demand_mistakes p n d
  demand_same n apart = refl
  demand_same n (within ranges) = refl
  demand_same n (plain f) = formula_same n [] f

-- ---- no mistakes

none_of : {A : Type 0} (xs : List A) → ((x : A) → Contains xs x → ⊥) → xs ≡ []
none_of [] h = refl
none_of (x ∷ xs) h = absurd (h x (0, omega arith, refl))

none_in : {A : Type 0} (xs : List A) (x : A) → xs ≡ [] → Contains xs x → ⊥
none_in [] x e c = (let l = c.1 in omega (arith, l))
none_in (y ∷ xs) x e c = absurd cc

both_none : {A : Type 0} (xs ys : List A) → xs ++ ys ≡ [] → (xs ≡ []) × (ys ≡ [])
both_none [] ys e = (refl, e)
both_none (x ∷ xs) ys e = absurd cc

each_none : (p : ProblemData) (rs : List RuleData) → rules_mistakes p rs ≡ [] → All (λ (r : RuleData). demand_mistakes p r.place r.demand ≡ []) rs
each_none p [] e k d l = absurd (omega (arith, l))
each_none p (r ∷ rest) e zero d l = (both_none (demand_mistakes p r.place r.demand) (rules_mistakes p rest) e).0
each_none p (r ∷ rest) e (suc k) d l = each_none p rest (both_none (demand_mistakes p r.place r.demand) (rules_mistakes p rest) e).1 k d (omega (arith, l))

rules_none : (p : ProblemData) (rs : List RuleData) → All (λ (r : RuleData). demand_mistakes p r.place r.demand ≡ []) rs → rules_mistakes p rs ≡ []
rules_none p [] h = refl
rules_none p (r ∷ rest) h = λ i. h 0 r (omega arith) i ++ rules_none p rest (λ k d l. h (suc k) d (omega (arith, l))) i

pub right_with : (p : ProblemData) (keep : List ℕ) → AreRules p keep → AreNamesRight p → AreNamesRight (with_rules p keep)
right_with p keep kept right m =
    let q = with_rules p keep in
    let none = both_none (macros_mistakes p p.macros) (rules_mistakes p p.rules) (none_of (mistakes p) right) in
    let each = all_kept p keep kept (λ (r : RuleData). demand_mistakes p r.place r.demand ≡ []) (each_none p p.rules none.1) in
    none_in (mistakes q) m (λ i. (macros_same p q.rules p.macros ∙ none.0) i ++ rules_none q q.rules (λ k d l. demand_same p q.rules (get_or q.rules k d).place (get_or q.rules k d).demand ∙ each k d l) i)
