-- What a rule asks for is the same where the problem has other rules: nothing but the list of rules
-- reads them.
use Rattle.std.proofs.Common.{◌≡◌, ◌<◌, ◌≤◌, ◌-◌, ◌==◌, ℕ, zero, suc, ℤ, pos, ◌+ℤ◌, ◌*ℤ◌, neg_ℤ, Bool, not, false, List, [], ◌∷◌, length, map, if◌then◌else◌, refl, sym, ap, ◌∙◌, subst, get_or, arith}
use Rattle.std.specs.Prelude.{◌&&◌, ◌||◌, All}
use Rattle.std.specs.Int.{int_min, int_max, int_div_euclid, int_rem_euclid}
use Rattle.std.specs.Option.{option_map_or}
use Rattle.std.specs.List.{filter}
use Rattle.std.specs.Str.{bytes_eq}
use Rattle.rule_syntax.specs.Tree as tree
use Rattle.rule_syntax.specs.Tree.{ExprTree, SumTree, SumTrees, ProductTree, ProductTrees, ArgumentTree, ArgumentTrees, CollTree, FormulaTree, FormulaTrees}
use Rattle.geo_base.specs.Tuple.{Tuple, Spot}
use Rattle.problem_data.specs.Problem.{RuleData, ObjectData, DemandData, apart, within, plain, ProblemData}
use Rattle.problem_data.specs.Tree.{BodyTree, means, equals}
use Rattle.problem_data.specs.Value.{Thing, Number, Object, Part, Env, bind, look, field_value, as_number, macro_position, Calls, thing, sum_value, sums_value, product_value, products_value, argument_thing, things, value}
use Rattle.problem_data.specs.Truth.{compare, same_truth, quantify, boxes_of_thing, candidates, is_there, elements, holds, all_hold, some_holds, bind_all, body_value, body_truth, macro_of, calls_of, formula_holds}
use Rattle.problem_data.specs.Cells.{HasForm, IsSpotOf, IsTuple}
use Rattle.problem_data.specs.Layouts.{DemandHolds}

module _ (p : ProblemData) (rs : List RuleData) where
  -- the problem with other rules
  abbrev pub other : ProblemData
  other = record p { rules = rs }

  look_same : (n : List ℕ) (env : Env) → look other n env ≡ look p n env
  look_same n [] = refl
  look_same n (b ∷ outer) = λ i. if bytes_eq n b.name then b.thing else look_same n outer i

  field_same : (t : Tuple) (x : Thing) (n : List ℕ) → field_value other t x n ≡ field_value p t x n
  field_same t (Number z) n = refl
  field_same t (Object o) n = refl
  field_same t (Part b) n = refl

  -- ---- expressions

  mutual
    thing_same : (c : Calls) (t : Tuple) (e : ExprTree) (env : Env) → thing c other t e env ≡ thing c p t e env
    thing_same c t (tree.number place n) env = refl
    thing_same c t (tree.field a dot f) env = λ i. Number ((field_same t (look other a.name env) f.name ∙ ap (λ (x : Thing). field_value p t x f.name) (look_same a.name env)) i)
    thing_same c t (tree.param a) env = look_same a.name env
    thing_same c t (tree.shape_number place a) env = refl
    thing_same c t (tree.negative place e) env = λ i. Number (neg_ℤ (as_number (thing_same c t e env i)))
    thing_same c t (tree.sum place e steps) env = λ i. Number (as_number (thing_same c t e env i) +ℤ sums_same c t steps env i)
    thing_same c t (tree.product place e steps) env =
        λ i. Number ((products_same c t (as_number (thing c other t e env)) steps env ∙ ap (λ (x : Thing). products_value c p t (as_number x) steps env) (thing_same c t e env)) i)
    thing_same c t (tree.least place a b) env = λ i. Number (int_min (as_number (thing_same c t a env i)) (as_number (thing_same c t b env i)))
    thing_same c t (tree.greatest place a b) env = λ i. Number (int_max (as_number (thing_same c t a env i)) (as_number (thing_same c t b env i)))
    thing_same c t (tree.value_call place m args) env = λ i. Number (option_map_or (λ k. c.number k (things_same c t args env i)) (macro_position p m.name) (pos 0))

    sum_same : (c : Calls) (t : Tuple) (s : SumTree) (env : Env) → sum_value c other t s env ≡ sum_value c p t s env
    sum_same c t (tree.plus e) env = λ i. as_number (thing_same c t e env i)
    sum_same c t (tree.minus e) env = λ i. neg_ℤ (as_number (thing_same c t e env i))

    sums_same : (c : Calls) (t : Tuple) (s : SumTrees) (env : Env) → sums_value c other t s env ≡ sums_value c p t s env
    sums_same c t tree.no_sums env = refl
    sums_same c t (tree.a_sum s rest) env = λ i. sum_same c t s env i +ℤ sums_same c t rest env i

    product_same : (c : Calls) (t : Tuple) (z : ℤ) (s : ProductTree) (env : Env) → product_value c other t z s env ≡ product_value c p t z s env
    product_same c t z (tree.times e) env = λ i. z *ℤ as_number (thing_same c t e env i)
    product_same c t z (tree.over place n) env = refl
    product_same c t z (tree.modulo place n) env = refl

    products_same : (c : Calls) (t : Tuple) (z : ℤ) (s : ProductTrees) (env : Env) → products_value c other t z s env ≡ products_value c p t z s env
    products_same c t z tree.no_products env = refl
    products_same c t z (tree.a_product s rest) env = products_same c t (product_value c other t z s env) rest env ∙ ap (λ (w : ℤ). products_value c p t w rest env) (product_same c t z s env)

    argument_same : (c : Calls) (t : Tuple) (a : ArgumentTree) (env : Env) → argument_thing c other t a env ≡ argument_thing c p t a env
    argument_same c t (tree.argument place e) env = thing_same c t e env

    things_same : (c : Calls) (t : Tuple) (s : ArgumentTrees) (env : Env) → things c other t s env ≡ things c p t s env
    things_same c t tree.no_arguments env = refl
    things_same c t (tree.an_argument a rest) env = λ i. argument_same c t a env i ∷ things_same c t rest env i

  value_same : (c : Calls) (t : Tuple) (e : ExprTree) (env : Env) → value c other t e env ≡ value c p t e env
  value_same c t e env = λ i. as_number (thing_same c t e env i)

  -- ---- formulas

  boxes_same : (t : Tuple) (x : Thing) → boxes_of_thing other t x ≡ boxes_of_thing p t x
  boxes_same t (Number z) = refl
  boxes_same t (Object o) = refl
  boxes_same t (Part b) = refl

  candidates_same : (t : Tuple) (coll : CollTree) (env : Env) → candidates other t coll env ≡ candidates p t coll env
  candidates_same t tree.all_objects env = refl
  candidates_same t (tree.listed ns) env = refl
  candidates_same t (tree.boxes_of a) env = boxes_same t (look other a.name env) ∙ ap (boxes_of_thing p t) (look_same a.name env)

  there_same : (t : Tuple) (x : Thing) → is_there other t x ≡ is_there p t x
  there_same t (Number z) = refl
  there_same t (Object o) = refl
  there_same t (Part b) = refl

  elements_same : (t : Tuple) (coll : CollTree) (env : Env) → elements other t coll env ≡ elements p t coll env
  elements_same t coll env = λ i. filter (λ x. there_same t x i) (candidates_same t coll env i)

  mutual
    holds_same : (c : Calls) (t : Tuple) (f : FormulaTree) (env : Env) → holds c other t f env ≡ holds c p t f env
    holds_same c t (tree.truth place) env = refl
    holds_same c t (tree.falsehood place) env = refl
    holds_same c t (tree.negation place f) env = λ i. not (holds_same c t f env i)
    holds_same c t (tree.all_of place fs) env = all_same c t fs env
    holds_same c t (tree.any_of place fs) env = some_same c t fs env
    holds_same c t (tree.implication place f g) env = λ i. not (holds_same c t f env i) || holds_same c t g env i
    holds_same c t (tree.equivalence place f g) env = λ i. same_truth (holds_same c t f env i) (holds_same c t g env i)
    holds_same c t (tree.comparison place a rel b) env = λ i. compare rel (value_same c t a env i) (value_same c t b env i)
    holds_same c t (tree.quantified place kind v coll f) env = λ i. quantify kind (λ x. holds_same c t f (bind v.name x env) i) (elements_same t coll env i)
    holds_same c t (tree.formula_call place m args) env = λ i. option_map_or (λ k. c.truth_of k (things_same c t args env i)) (macro_position p m.name) false

    all_same : (c : Calls) (t : Tuple) (fs : FormulaTrees) (env : Env) → all_hold c other t fs env ≡ all_hold c p t fs env
    all_same c t tree.no_formulas env = refl
    all_same c t (tree.a_formula f rest) env = λ i. holds_same c t f env i && all_same c t rest env i

    some_same : (c : Calls) (t : Tuple) (fs : FormulaTrees) (env : Env) → some_holds c other t fs env ≡ some_holds c p t fs env
    some_same c t tree.no_formulas env = refl
    some_same c t (tree.a_formula f rest) env = λ i. holds_same c t f env i || some_same c t rest env i

  -- ---- macros

  body_value_same : (c : Calls) (t : Tuple) (b : BodyTree) (env : Env) → body_value c other t b env ≡ body_value c p t b env
  body_value_same c t (means f) env = refl
  body_value_same c t (equals e) env = value_same c t e env

  body_truth_same : (c : Calls) (t : Tuple) (b : BodyTree) (env : Env) → body_truth c other t b env ≡ body_truth c p t b env
  body_truth_same c t (means f) env = holds_same c t f env
  body_truth_same c t (equals e) env = refl

  calls_same : (t : Tuple) (n : ℕ) → calls_of other t n ≡ calls_of p t n
  calls_same t zero = refl
  calls_same t (suc n) = λ i. record {
    number = λ k xs. if k == n
        then (body_value_same (calls_of other t n) t (macro_of p n).body (bind_all (macro_of p n).params xs) ∙ ap (λ (c : Calls). body_value c p t (macro_of p n).body (bind_all (macro_of p n).params xs)) (calls_same t n)) i
        else (calls_same t n i).number k xs;
    truth_of = λ k xs. if k == n
        then (body_truth_same (calls_of other t n) t (macro_of p n).body (bind_all (macro_of p n).params xs) ∙ ap (λ (c : Calls). body_truth c p t (macro_of p n).body (bind_all (macro_of p n).params xs)) (calls_same t n)) i
        else (calls_same t n i).truth_of k xs;
  }

  pub formula_same : (t : Tuple) (f : FormulaTree) → formula_holds other t f ≡ formula_holds p t f
  formula_same t f = holds_same (calls_of other t (length p.macros)) t f [] ∙ ap (λ (c : Calls). holds c p t f []) (calls_same t (length p.macros))

  -- ---- what a rule asks for, and tuples

  pub demand_to : (t : Tuple) (d : DemandData) → DemandHolds p t d → DemandHolds other t d
  demand_to t apart h = h
  demand_to t (within ranges) h = h
  demand_to t (plain f) h = formula_same t f ∙ h

  pub demand_from : (t : Tuple) (d : DemandData) → DemandHolds other t d → DemandHolds p t d
  demand_from t apart h = h
  demand_from t (within ranges) h = h
  demand_from t (plain f) h = sym (formula_same t f) ∙ h

  form_to : (o : ObjectData) (s : Spot) → HasForm p o s → HasForm other o s
  form_to o s h = record { first = h.first; last = h.last; dimensions = h.dimensions }

  form_from : (o : ObjectData) (s : Spot) → HasForm other o s → HasForm p o s
  form_from o s h = record { first = h.first; last = h.last; dimensions = h.dimensions }

  spot_to : (o : ObjectData) (s : Spot) → IsSpotOf p o s → IsSpotOf other o s
  spot_to o s h = record { form = form_to o s h.form; pieces = h.pieces; first = h.first }

  spot_from : (o : ObjectData) (s : Spot) → IsSpotOf other o s → IsSpotOf p o s
  spot_from o s h = record { form = form_from o s h.form; pieces = h.pieces; first = h.first }

  pub tuple_to : (t : Tuple) → IsTuple p t → IsTuple other t
  tuple_to t h = record { objects = h.objects; each = λ o l. spot_to _ _ (h.each o l) }

  pub tuple_from : (t : Tuple) → IsTuple other t → IsTuple p t
  tuple_from t h = record { objects = h.objects; each = λ o l. spot_from _ _ (h.each o l) }
