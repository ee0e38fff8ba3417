-- Names that are right are right at other places, where statements see the same macros.
use Rattle.std.proofs.Common.{◌≡◌, ◌==◌, ◌+◌, ℕ, Bool, not, List, [], ◌∷◌, ◌++◌, length, if◌then◌else◌, map, refl, sym, ap, ◌∙◌}
use Rattle.std.specs.Prelude.{◌||◌, false, true, is_some, Option, None, Some}
use Rattle.std.specs.Option.{option_map_or}
use Rattle.std.specs.List.{list_any}
use Rattle.std.specs.Str.{bytes_eq}
use Rattle.rule_syntax.specs.declared.tree.PlacedName.{PlacedName}
use Rattle.rule_syntax.specs.Tree.{ExprTree, number, field, param, shape_number, negative, sum, product, least, greatest, value_call, SumTree, plus, minus, SumTrees, no_sums, a_sum, ProductTree, times, over, modulo, ProductTrees, no_products, a_product, ArgumentTree, argument, ArgumentTrees, no_arguments, an_argument, all_objects, listed, boxes_of, FormulaTree, truth, falsehood, negation, all_of, any_of, implication, equivalence, comparison, quantified, formula_call, FormulaTrees, no_formulas, a_formula}
use Rattle.rule_print.specs.Spelled.{bare_name, bare_expr, bare_sums, bare_sum, bare_products, bare_product, bare_argument, bare_arguments, bare_formula, bare_formulas}
use Rattle.problem_data.specs.declared.tree.ParamKind.{ParamKind}
use Rattle.problem_data.specs.declared.tree.ParamKind.TheVariants as kinds
use Rattle.problem_data.specs.Problem.{ParamData, MacroData, DemandData, apart, within, plain, RuleData, ProblemData}
use Rattle.problem_data.specs.Tree.{BodyTree, means, equals}
use Rattle.problem_data.specs.Value.{object_position, shape_position}
use Rattle.problem_text.specs.ReadBack.{bare_macro, bare_body, bare_demand}
use Rattle.rule_names.specs.declared.mistake.Mistake.{Mistake}
use Rattle.rule_names.specs.declared.mistake.Flaw.{Flaw}
use Rattle.rule_names.specs.declared.mistake.Flaw.TheVariants.{UnknownName, RepeatedName, WrongKind, WrongCount, UnknownField}
use Rattle.rule_names.specs.Mistakes.{mistake, mistake_if}
use Rattle.rule_names.specs.Sight.{Sight, binding, kind_of, same_kind, macro_called, is_object_field, is_box_field}
use Rattle.rule_names.specs.Names.{field_of_kind, field_mistakes, kind_given, passed_mistakes, all_passed, argument_count, is_formula, differs, call_of_macro, call_mistakes, expr_mistakes, sum_mistakes, sums_mistakes, product_mistakes, products_mistakes, argument_mistakes, arguments_mistakes, listed_mistakes, formula_mistakes, formulas_mistakes, body_mistakes, demand_mistakes}

-- ---- mistakes

-- Where the first list is empty, the second is; and where the third is, the fourth. The first and
-- the third are mistakes of one problem, in a tree and in the tree without places; and the second
-- and the fourth mistakes of another, in the tree without places and in the tree.
pub record Alike (a b c d : List Mistake) : Type 0 where
  pub bared : a ≡ [] → b ≡ []
  pub placed : c ≡ [] → d ≡ []

none_in : (xs ys : List Mistake) → xs ++ ys ≡ [] → (xs ≡ []) × (ys ≡ [])
none_in [] ys e = (refl, e)
none_in (x ∷ xs) ys e = absurd cc

both : {a b c d a' b' c' d' : List Mistake} → Alike a b c d → Alike a' b' c' d' → Alike (a ++ a') (b ++ b') (c ++ c') (d ++ d')
both {a} {b} {c} {d} {a'} {b'} {c'} {d'} h h' = record {
  bared = λ e. let n = none_in a a' e in λ i. h.bared n.0 i ++ h'.bared n.1 i;
  placed = λ e. let n = none_in c c' e in λ i. h.placed n.0 i ++ h'.placed n.1 i;
}

none : Alike [] [] [] []
none = record { bared = λ e. refl; placed = λ e. refl }

-- a mistake on both sides
wrong : (m n o u : Mistake) → Alike (m ∷ []) (n ∷ []) (o ∷ []) (u ∷ [])
wrong m n o u = record { bared = λ e. absurd cc; placed = λ e. absurd cc }

wrong_if : (b : Bool) (m n o u : ℕ) (f : Flaw) → Alike (mistake_if b m f) (mistake_if b n f) (mistake_if b o f) (mistake_if b u f)
wrong_if true m n o u f = wrong (mistake m f) (mistake n f) (mistake o f) (mistake u f)
wrong_if false m n o u f = none

-- what is said of a name, if it stands for something
said_of : {A : Type 0} (o : Option A) (wrong_of : A → Bool) (m n : ℕ) (f : Flaw) (xs ys : List Mistake) → Alike xs ys ys xs
    → Alike (option_map_or (λ k. mistake_if (wrong_of k) m f) o xs) (option_map_or (λ k. mistake_if (wrong_of k) n f) o ys) (option_map_or (λ k. mistake_if (wrong_of k) n f) o ys) (option_map_or (λ k. mistake_if (wrong_of k) m f) o xs)
said_of None wrong_of m n f xs ys h = h
said_of (Some k) wrong_of m n f xs ys h = wrong_if (wrong_of k) m n n m f

alike_as : {a b c d a' b' c' d' : List Mistake} → a ≡ a' → b ≡ b' → c ≡ c' → d ≡ d' → Alike a b c d → Alike a' b' c' d'
alike_as e f g h k = record { bared = λ z. sym f ∙ k.bared (e ∙ z); placed = λ z. sym h ∙ k.placed (g ∙ z) }

count_same : (args : ArgumentTrees) → argument_count (bare_arguments args) ≡ argument_count args
count_same no_arguments = refl
count_same (an_argument a rest) = λ i. 1 + count_same rest i

is_formula_same : (b : BodyTree) → is_formula (bare_body b) ≡ is_formula b
is_formula_same (means f) = refl
is_formula_same (equals e) = refl

given_bare : (p : ProblemData) (s : Sight) (e : ExprTree) → kind_given p s (bare_expr e) ≡ kind_given p s e
given_bare p s (number place n) = refl
given_bare p s (field a dot f) = refl
given_bare p s (param a) = refl
given_bare p s (shape_number place a) = refl
given_bare p s (negative place e) = refl
given_bare p s (sum place e steps) = refl
given_bare p s (product place e steps) = refl
given_bare p s (least place a b) = refl
given_bare p s (greatest place a b) = refl
given_bare p s (value_call place m args) = refl

-- each macro that a statement at n calls in p, one at m calls in q
abbrev pub Sees : ProblemData → ProblemData → ℕ → ℕ → Type 0
Sees p q n m = (name : List ℕ) (d : MacroData) → macro_called p n name ≡ Some d → (e : MacroData) × (macro_called q m name ≡ Some e) × (bare_macro d ≡ bare_macro e)

-- ---- a problem and one with other macros and rules

module _ (p : ProblemData) (ms : List MacroData) (rs : List RuleData) where
  abbrev pub other : ProblemData
  other = record p { macros = ms; rules = rs }

  kind_same : (s : Sight) (n : List ℕ) → kind_of other s n ≡ kind_of p s n
  kind_same [] n = refl
  kind_same (q ∷ outer) n = λ i. if bytes_eq n q.name then Some q.kind else kind_same outer n i

  given_same : (s : Sight) (e : ExprTree) → kind_given other s e ≡ kind_given p s e
  given_same s (number place n) = refl
  given_same s (field a dot f) = refl
  given_same s (param a) = kind_same s a.name
  given_same s (shape_number place a) = refl
  given_same s (negative place e) = refl
  given_same s (sum place e steps) = refl
  given_same s (product place e steps) = refl
  given_same s (least place a b) = refl
  given_same s (greatest place a b) = refl
  given_same s (value_call place m args) = refl

  -- ---- names

  of_kind_alike : (k : Option ParamKind) (a : PlacedName) (dot : ℕ) (f : PlacedName)
      → Alike (field_of_kind p k a dot f) (field_of_kind other k (bare_name a) 0 (bare_name f)) (field_of_kind p k (bare_name a) 0 (bare_name f)) (field_of_kind other k a dot f)
  of_kind_alike None a dot f = wrong (mistake a.place UnknownName) (mistake 0 UnknownName) (mistake 0 UnknownName) (mistake a.place UnknownName)
  of_kind_alike (Some kinds.Int) a dot f = wrong (mistake dot WrongKind) (mistake 0 WrongKind) (mistake 0 WrongKind) (mistake dot WrongKind)
  of_kind_alike (Some kinds.Object) a dot f = wrong_if (not (is_object_field p f.name)) f.place 0 0 f.place UnknownField
  of_kind_alike (Some kinds.Box) a dot f = wrong_if (not (is_box_field p f.name)) f.place 0 0 f.place UnknownField

  field_alike : (s : Sight) (a : PlacedName) (dot : ℕ) (f : PlacedName)
      → Alike (field_mistakes p s a dot f) (field_mistakes other s (bare_name a) 0 (bare_name f)) (field_mistakes p s (bare_name a) 0 (bare_name f)) (field_mistakes other s a dot f)
  field_alike s a dot f =
      let same : kind_of p s a.name ≡ kind_of other s a.name = sym (kind_same s a.name) in
      alike_as refl (ap (λ (k : Option ParamKind). field_of_kind other k (bare_name a) 0 (bare_name f)) same) refl (ap (λ (k : Option ParamKind). field_of_kind other k a dot f) same)
      (of_kind_alike (kind_of p s a.name) a dot f)

  -- what is said of a name by its kind
  kind_alike : (s : Sight) (a : PlacedName) (wrong_of : ParamKind → Bool)
      → Alike
      (option_map_or (λ k. mistake_if (wrong_of k) a.place WrongKind) (kind_of p s a.name) (mistake a.place UnknownName ∷ []))
      (option_map_or (λ k. mistake_if (wrong_of k) 0 WrongKind) (kind_of other s a.name) (mistake 0 UnknownName ∷ []))
      (option_map_or (λ k. mistake_if (wrong_of k) 0 WrongKind) (kind_of p s a.name) (mistake 0 UnknownName ∷ []))
      (option_map_or (λ k. mistake_if (wrong_of k) a.place WrongKind) (kind_of other s a.name) (mistake a.place UnknownName ∷ []))
  kind_alike s a wrong_of =
      let same : kind_of p s a.name ≡ kind_of other s a.name = sym (kind_same s a.name) in
      alike_as refl (ap (λ (o : Option ParamKind). option_map_or (λ k. mistake_if (wrong_of k) 0 WrongKind) o (mistake 0 UnknownName ∷ [])) same)
      refl (ap (λ (o : Option ParamKind). option_map_or (λ k. mistake_if (wrong_of k) a.place WrongKind) o (mistake a.place UnknownName ∷ [])) same)
      (said_of (kind_of p s a.name) wrong_of a.place 0 WrongKind (mistake a.place UnknownName ∷ []) (mistake 0 UnknownName ∷ [])
      (wrong (mistake a.place UnknownName) (mistake 0 UnknownName) (mistake 0 UnknownName) (mistake a.place UnknownName)))

  -- ---- calls

  passed_alike : (s : Sight) (q : ParamData) (a : ArgumentTree)
      → Alike (passed_mistakes p s q a) (passed_mistakes other s q (bare_argument a)) (passed_mistakes p s q (bare_argument a)) (passed_mistakes other s q a)
  passed_alike s q (argument place e) =
      let wrong_of : ParamKind → Bool = λ k. not (same_kind k q.kind) in
      alike_as refl
      (ap (λ (o : Option ParamKind). option_map_or (λ k. mistake_if (wrong_of k) 0 WrongKind) o []) (sym (given_same s e) ∙ sym (given_bare other s e)))
      (ap (λ (o : Option ParamKind). option_map_or (λ k. mistake_if (wrong_of k) 0 WrongKind) o []) (sym (given_bare p s e)))
      (ap (λ (o : Option ParamKind). option_map_or (λ k. mistake_if (wrong_of k) place WrongKind) o []) (sym (given_same s e)))
      (said_of (kind_given p s e) wrong_of place 0 WrongKind [] [] none)

  all_passed_alike : (s : Sight) (params : List ParamData) (args : ArgumentTrees)
      → Alike (all_passed p s params args) (all_passed other s params (bare_arguments args)) (all_passed p s params (bare_arguments args)) (all_passed other s params args)
  all_passed_alike s [] args = none
  all_passed_alike s (q ∷ params) no_arguments = none
  all_passed_alike s (q ∷ params) (an_argument a rest) = both (passed_alike s q a) (all_passed_alike s params rest)

  of_macro_alike : (s : Sight) (formula : Bool) (place : ℕ) (args : ArgumentTrees) (d e : MacroData) → bare_macro d ≡ bare_macro e
      → Alike (call_of_macro p s formula place args d) (call_of_macro other s formula 0 (bare_arguments args) e) (call_of_macro p s formula 0 (bare_arguments args) d) (call_of_macro other s formula place args e)
  of_macro_alike s formula place args d e h =
      let form : is_formula d.body ≡ is_formula e.body = sym (is_formula_same d.body) ∙ ap (λ (x : MacroData). is_formula x.body) h ∙ is_formula_same e.body in
      let params : d.params ≡ e.params = ap (λ (x : MacroData). x.params) h in
      let count : argument_count args ≡ argument_count (bare_arguments args) = sym (count_same args) in
      alike_as refl
      (λ i. mistake_if (differs formula (form i)) 0 WrongKind ++ mistake_if (not (count i == length (params i))) 0 WrongCount ++ all_passed other s (params i) (bare_arguments args))
      (λ i. mistake_if (differs formula (is_formula d.body)) 0 WrongKind ++ mistake_if (not (count i == length d.params)) 0 WrongCount ++ all_passed p s d.params (bare_arguments args))
      (λ i. mistake_if (differs formula (form i)) place WrongKind ++ mistake_if (not (argument_count args == length (params i))) place WrongCount ++ all_passed other s (params i) args)
      (both
      (both (wrong_if (differs formula (is_formula d.body)) place 0 0 place WrongKind) (wrong_if (not (argument_count args == length d.params)) place 0 0 place WrongCount))
      (all_passed_alike s d.params args))

  by_called : (s : Sight) (formula : Bool) (place : ℕ) (args : ArgumentTrees) (here : ℕ) (o u : Option MacroData)
      → ((d : MacroData) → o ≡ Some d → (e : MacroData) × (u ≡ Some e) × (bare_macro d ≡ bare_macro e))
      → Alike
      (option_map_or (call_of_macro p s formula place args) o (mistake here UnknownName ∷ []))
      (option_map_or (call_of_macro other s formula 0 (bare_arguments args)) u (mistake 0 UnknownName ∷ []))
      (option_map_or (call_of_macro p s formula 0 (bare_arguments args)) o (mistake 0 UnknownName ∷ []))
      (option_map_or (call_of_macro other s formula place args) u (mistake here UnknownName ∷ []))
  by_called s formula place args here None u h = record { bared = λ e. absurd cc; placed = λ e. absurd cc }
  by_called s formula place args here (Some d) u h =
      let (e, is, same) = h d refl in
      alike_as refl
      (ap (λ (x : Option MacroData). option_map_or (call_of_macro other s formula 0 (bare_arguments args)) x (mistake 0 UnknownName ∷ [])) (sym is))
      refl
      (ap (λ (x : Option MacroData). option_map_or (call_of_macro other s formula place args) x (mistake here UnknownName ∷ [])) (sym is))
      (of_macro_alike s formula place args d e same)

  listed_alike : (before : List (List ℕ)) (names : List PlacedName)
      → Alike (listed_mistakes p before names) (listed_mistakes other before (map bare_name names)) (listed_mistakes p before (map bare_name names)) (listed_mistakes other before names)
  listed_alike before [] = none
  listed_alike before (a ∷ rest) =
      both
      (both (wrong_if (not (is_some (object_position p a.name))) a.place 0 0 a.place UnknownName) (wrong_if (list_any (bytes_eq a.name) before) a.place 0 0 a.place RepeatedName))
      (listed_alike (before ++ a.name ∷ []) rest)

  -- ---- statements whose names stand at n and at m

  module _ (n m : ℕ) (sees : Sees p other n m) where
    call_alike : (s : Sight) (formula : Bool) (place : ℕ) (a : PlacedName) (args : ArgumentTrees)
        → Alike (call_mistakes p n s formula place a args) (call_mistakes other m s formula 0 (bare_name a) (bare_arguments args)) (call_mistakes p n s formula 0 (bare_name a) (bare_arguments args)) (call_mistakes other m s formula place a args)
    call_alike s formula place a args = by_called s formula place args a.place (macro_called p n a.name) (macro_called other m a.name) (sees a.name)

    mutual
      expr_alike : (s : Sight) (any_kind : Bool) (e : ExprTree) → Alike (expr_mistakes p n s any_kind e) (expr_mistakes other m s any_kind (bare_expr e)) (expr_mistakes p n s any_kind (bare_expr e)) (expr_mistakes other m s any_kind e)
      expr_alike s any_kind (number place v) = none
      expr_alike s any_kind (field a dot f) = field_alike s a dot f
      expr_alike s any_kind (param a) = kind_alike s a (λ k. not (any_kind || same_kind k kinds.Int))
      expr_alike s any_kind (shape_number place a) = wrong_if (not (is_some (shape_position p a.name))) a.place 0 0 a.place UnknownName
      expr_alike s any_kind (negative place e) = expr_alike s false e
      expr_alike s any_kind (sum place e steps) = both (expr_alike s false e) (sums_alike s steps)
      expr_alike s any_kind (product place e steps) = both (expr_alike s false e) (products_alike s steps)
      expr_alike s any_kind (least place a b) = both (expr_alike s false a) (expr_alike s false b)
      expr_alike s any_kind (greatest place a b) = both (expr_alike s false a) (expr_alike s false b)
      expr_alike s any_kind (value_call place a args) = both (call_alike s false place a args) (arguments_alike s args)

      sum_alike : (s : Sight) (x : SumTree) → Alike (sum_mistakes p n s x) (sum_mistakes other m s (bare_sum x)) (sum_mistakes p n s (bare_sum x)) (sum_mistakes other m s x)
      sum_alike s (plus e) = expr_alike s false e
      sum_alike s (minus e) = expr_alike s false e

      sums_alike : (s : Sight) (x : SumTrees) → Alike (sums_mistakes p n s x) (sums_mistakes other m s (bare_sums x)) (sums_mistakes p n s (bare_sums x)) (sums_mistakes other m s x)
      sums_alike s no_sums = none
      sums_alike s (a_sum step rest) = both (sum_alike s step) (sums_alike s rest)

      product_alike : (s : Sight) (x : ProductTree) → Alike (product_mistakes p n s x) (product_mistakes other m s (bare_product x)) (product_mistakes p n s (bare_product x)) (product_mistakes other m s x)
      product_alike s (times e) = expr_alike s false e
      product_alike s (over place v) = none
      product_alike s (modulo place v) = none

      products_alike : (s : Sight) (x : ProductTrees) → Alike (products_mistakes p n s x) (products_mistakes other m s (bare_products x)) (products_mistakes p n s (bare_products x)) (products_mistakes other m s x)
      products_alike s no_products = none
      products_alike s (a_product step rest) = both (product_alike s step) (products_alike s rest)

      argument_alike : (s : Sight) (x : ArgumentTree) → Alike (argument_mistakes p n s x) (argument_mistakes other m s (bare_argument x)) (argument_mistakes p n s (bare_argument x)) (argument_mistakes other m s x)
      argument_alike s (argument place e) = expr_alike s true e

      arguments_alike : (s : Sight) (x : ArgumentTrees) → Alike (arguments_mistakes p n s x) (arguments_mistakes other m s (bare_arguments x)) (arguments_mistakes p n s (bare_arguments x)) (arguments_mistakes other m s x)
      arguments_alike s no_arguments = none
      arguments_alike s (an_argument a rest) = both (argument_alike s a) (arguments_alike s rest)

    mutual
      formula_alike : (s : Sight) (f : FormulaTree) → Alike (formula_mistakes p n s f) (formula_mistakes other m s (bare_formula f)) (formula_mistakes p n s (bare_formula f)) (formula_mistakes other m s f)
      formula_alike s (truth place) = none
      formula_alike s (falsehood place) = none
      formula_alike s (negation place f) = formula_alike s f
      formula_alike s (all_of place fs) = formulas_alike s fs
      formula_alike s (any_of place fs) = formulas_alike s fs
      formula_alike s (implication place f g) = both (formula_alike s f) (formula_alike s g)
      formula_alike s (equivalence place f g) = both (formula_alike s f) (formula_alike s g)
      formula_alike s (comparison place a rel b) = both (expr_alike s false a) (expr_alike s false b)
      formula_alike s (quantified place kind v all_objects f) = formula_alike (binding v.name kinds.Object s) f
      formula_alike s (quantified place kind v (listed names) f) = both (listed_alike [] names) (formula_alike (binding v.name kinds.Object s) f)
      formula_alike s (quantified place kind v (boxes_of a) f) = both (kind_alike s a (λ k. not (same_kind k kinds.Object))) (formula_alike (binding v.name kinds.Box s) f)
      formula_alike s (formula_call place a args) = both (call_alike s true place a args) (arguments_alike s args)

      formulas_alike : (s : Sight) (fs : FormulaTrees) → Alike (formulas_mistakes p n s fs) (formulas_mistakes other m s (bare_formulas fs)) (formulas_mistakes p n s (bare_formulas fs)) (formulas_mistakes other m s fs)
      formulas_alike s no_formulas = none
      formulas_alike s (a_formula f rest) = both (formula_alike s f) (formulas_alike s rest)

    pub body_alike : (s : Sight) (b : BodyTree) → Alike (body_mistakes p n s b) (body_mistakes other m s (bare_body b)) (body_mistakes p n s (bare_body b)) (body_mistakes other m s b)
    body_alike s (means f) = formula_alike s f
    body_alike s (equals e) = expr_alike s false e

    pub demand_alike : (d : DemandData) → Alike (demand_mistakes p n d) (demand_mistakes other m (bare_demand d)) (demand_mistakes p n (bare_demand d)) (demand_mistakes other m d)
    demand_alike apart = none
    demand_alike (within ranges) = none
    demand_alike (plain f) = formula_alike [] f
