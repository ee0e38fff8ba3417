-- A rule without its macros is the same where the problem and the rule have no places.
use Rattle.std.proofs.Common.{◌≡◌, ℕ, zero, suc, ◌+◌, ◌==◌, List, [], ◌∷◌, length, map, if◌then◌else◌, refl, ap, ◌∙◌}
use Rattle.std.proofs.lemmas.List.{length-map}
use Rattle.std.specs.List.{cons_option}
use Rattle.std.specs.Option.{option_map_or}
use Rattle.std.specs.Str.{bytes_eq}
use Rattle.rule_syntax.specs.declared.tree.PlacedName.{PlacedName}
use Rattle.rule_syntax.specs.Tree as tree
use Rattle.rule_syntax.specs.Tree.{ExprTree, SumTree, SumTrees, ProductTree, ProductTrees, ArgumentTree, ArgumentTrees, CollTree, FormulaTree, FormulaTrees}
use Rattle.problem_data.specs.Problem.{MacroData, DemandData, ProblemData}
use Rattle.problem_data.specs.Problem as written
use Rattle.problem_data.specs.Tree.{BodyTree, means, equals}
use Rattle.problem_data.specs.Value.{object_position}
use Rattle.problem_data.specs.Truth.{listed_objects, macro_of}
use Rattle.rule_expand.specs.declared.plain.Subject.TheVariants as subjects
use Rattle.rule_expand.specs.Plain as plain
use Rattle.rule_expand.specs.Plain.{PlainFormulaTree, PlainExprTree}
use Rattle.rule_expand.specs.Expansion.{an_expr, a_subject, Subst, give, meant_by, as_expr, field_of, binders, Expansions, meant, sum_expanded, sums_expanded, product_expanded, products_expanded, argument_meant, arguments_meant, expr_expanded, boxes_expanded, coll_expanded, formula_expanded, formulas_expanded, give_all, body_expr, body_formula, expansions_of, expanded}
use Rattle.rule_expand.specs.Rules.{demand_expanded}
use Rattle.rule_expand.specs.Rules as rules
use Rattle.rule_print.specs.Spelled.{bare_name, bare_expr, bare_sums, bare_sum, bare_products, bare_product, bare_argument, bare_arguments, bare_coll, bare_formula, bare_formulas}
use Rattle.problem_text.specs.ReadBack.{bare_macro, bare_body, bare_demand, bare_problem}
use Rattle.bare_rules.proofs.Bare.{macro_bare, position_bare}

module _ (p : ProblemData) where
  abbrev pub other : ProblemData
  other = bare_problem p

  by_same : (n : List ℕ) (sub : Subst) → meant_by other n sub ≡ meant_by p n sub
  by_same n [] = refl
  by_same n (b ∷ outer) = λ i. if bytes_eq n b.name then b.meant else by_same n outer i

  mutual
    meant_same : (x : Expansions) (e : ExprTree) (sub : Subst) → meant x other (bare_expr e) sub ≡ meant x p e sub
    meant_same x (tree.number place n) sub = refl
    meant_same x (tree.field a dot f) sub = λ i. an_expr (field_of (by_same a.name sub i) f.name)
    meant_same x (tree.param a) sub = by_same a.name sub
    meant_same x (tree.shape_number place a) sub = refl
    meant_same x (tree.negative place e) sub = λ i. an_expr (plain.negative (as_expr (meant_same x e sub i)))
    meant_same x (tree.sum place e steps) sub = λ i. an_expr (plain.sum (as_expr (meant_same x e sub i)) (sums_same x steps sub i))
    meant_same x (tree.product place e steps) sub = λ i. an_expr (plain.product (as_expr (meant_same x e sub i)) (products_same x steps sub i))
    meant_same x (tree.least place a b) sub = λ i. an_expr (plain.least (as_expr (meant_same x a sub i)) (as_expr (meant_same x b sub i)))
    meant_same x (tree.greatest place a b) sub = λ i. an_expr (plain.greatest (as_expr (meant_same x a sub i)) (as_expr (meant_same x b sub i)))
    meant_same x (tree.value_call place m args) sub = λ i. an_expr (option_map_or (λ k. x.number k (arguments_same x args sub i)) (position_bare p m.name i) (plain.number 0))

    sum_same : (x : Expansions) (s : SumTree) (sub : Subst) → sum_expanded x other (bare_sum s) sub ≡ sum_expanded x p s sub
    sum_same x (tree.plus e) sub = λ i. plain.plus (as_expr (meant_same x e sub i))
    sum_same x (tree.minus e) sub = λ i. plain.minus (as_expr (meant_same x e sub i))

    sums_same : (x : Expansions) (s : SumTrees) (sub : Subst) → sums_expanded x other (bare_sums s) sub ≡ sums_expanded x p s sub
    sums_same x tree.no_sums sub = refl
    sums_same x (tree.a_sum s rest) sub = λ i. plain.a_sum (sum_same x s sub i) (sums_same x rest sub i)

    product_same : (x : Expansions) (s : ProductTree) (sub : Subst) → product_expanded x other (bare_product s) sub ≡ product_expanded x p s sub
    product_same x (tree.times e) sub = λ i. plain.times (as_expr (meant_same x e sub i))
    product_same x (tree.over place n) sub = refl
    product_same x (tree.modulo place n) sub = refl

    products_same : (x : Expansions) (s : ProductTrees) (sub : Subst) → products_expanded x other (bare_products s) sub ≡ products_expanded x p s sub
    products_same x tree.no_products sub = refl
    products_same x (tree.a_product s rest) sub = λ i. plain.a_product (product_same x s sub i) (products_same x rest sub i)

    argument_same : (x : Expansions) (a : ArgumentTree) (sub : Subst) → argument_meant x other (bare_argument a) sub ≡ argument_meant x p a sub
    argument_same x (tree.argument place e) sub = meant_same x e sub

    arguments_same : (x : Expansions) (s : ArgumentTrees) (sub : Subst) → arguments_meant x other (bare_arguments s) sub ≡ arguments_meant x p s sub
    arguments_same x tree.no_arguments sub = refl
    arguments_same x (tree.an_argument a rest) sub = λ i. argument_same x a sub i ∷ arguments_same x rest sub i

  expr_same : (x : Expansions) (e : ExprTree) (sub : Subst) → expr_expanded x other (bare_expr e) sub ≡ expr_expanded x p e sub
  expr_same x e sub = λ i. as_expr (meant_same x e sub i)

  listed_same : (ns : List PlacedName) → listed_objects other (map bare_name ns) ≡ listed_objects p ns
  listed_same [] = refl
  listed_same (n ∷ ns) = λ i. cons_option (object_position p n.name) (listed_same ns i)

  coll_same : (coll : CollTree) (sub : Subst) → coll_expanded other (bare_coll coll) sub ≡ coll_expanded p coll sub
  coll_same tree.all_objects sub = refl
  coll_same (tree.listed ns) sub = λ i. plain.listed (listed_same ns i)
  coll_same (tree.boxes_of a) sub = λ i. boxes_expanded (by_same a.name sub i)

  mutual
    formula_same : (x : Expansions) (f : FormulaTree) (sub : Subst) (k : ℕ) → formula_expanded x other (bare_formula f) sub k ≡ formula_expanded x p f sub k
    formula_same x (tree.truth place) sub k = refl
    formula_same x (tree.falsehood place) sub k = refl
    formula_same x (tree.negation place f) sub k = λ i. plain.negation (formula_same x f sub k i)
    formula_same x (tree.all_of place fs) sub k = λ i. plain.all_of (formulas_same x fs sub k i)
    formula_same x (tree.any_of place fs) sub k = λ i. plain.any_of (formulas_same x fs sub k i)
    formula_same x (tree.implication place f g) sub k = λ i. plain.implication (formula_same x f sub k i)
        ((formula_same x g sub (k + binders (formula_expanded x other (bare_formula f) sub k)) ∙ ap (λ (h : PlainFormulaTree). formula_expanded x p g sub (k + binders h)) (formula_same x f sub k)) i)
    formula_same x (tree.equivalence place f g) sub k = λ i. plain.equivalence (formula_same x f sub k i)
        ((formula_same x g sub (k + binders (formula_expanded x other (bare_formula f) sub k)) ∙ ap (λ (h : PlainFormulaTree). formula_expanded x p g sub (k + binders h)) (formula_same x f sub k)) i)
    formula_same x (tree.comparison place a rel b) sub k = λ i. plain.comparison (expr_same x a sub i) rel (expr_same x b sub i)
    formula_same x (tree.quantified place kind v coll f) sub k = λ i. plain.quantified kind k (coll_same coll sub i) (formula_same x f (give v.name (a_subject (subjects.Variable k)) sub) (k + 1) i)
    formula_same x (tree.formula_call place m args) sub k = λ i. option_map_or (λ n. x.truth_of n (arguments_same x args sub i) k) (position_bare p m.name i) plain.falsehood

    formulas_same : (x : Expansions) (fs : FormulaTrees) (sub : Subst) (k : ℕ) → formulas_expanded x other (bare_formulas fs) sub k ≡ formulas_expanded x p fs sub k
    formulas_same x tree.no_formulas sub k = refl
    formulas_same x (tree.a_formula f rest) sub k = λ i. plain.a_formula (formula_same x f sub k i)
        ((formulas_same x rest sub (k + binders (formula_expanded x other (bare_formula f) sub k)) ∙ ap (λ (h : PlainFormulaTree). formulas_expanded x p rest sub (k + binders h)) (formula_same x f sub k)) i)

  body_expr_same : (x : Expansions) (b : BodyTree) (sub : Subst) → body_expr x other (bare_body b) sub ≡ body_expr x p b sub
  body_expr_same x (means f) sub = refl
  body_expr_same x (equals e) sub = expr_same x e sub

  body_formula_same : (x : Expansions) (b : BodyTree) (sub : Subst) (k : ℕ) → body_formula x other (bare_body b) sub k ≡ body_formula x p b sub k
  body_formula_same x (means f) sub k = formula_same x f sub k
  body_formula_same x (equals e) sub k = refl

  expansions_same : (n : ℕ) → expansions_of other n ≡ expansions_of p n
  expansions_same zero = refl
  expansions_same (suc n) = λ i. record {
    number = λ k ms. if k == n
        then (ap (λ (d : MacroData). body_expr (expansions_of other n) other d.body (give_all d.params ms)) (macro_bare p n)
        ∙ body_expr_same (expansions_of other n) (macro_of p n).body (give_all (macro_of p n).params ms)
        ∙ ap (λ (x : Expansions). body_expr x p (macro_of p n).body (give_all (macro_of p n).params ms)) (expansions_same n)) i
        else (expansions_same n i).number k ms;
    truth_of = λ k ms v. if k == n
        then (ap (λ (d : MacroData). body_formula (expansions_of other n) other d.body (give_all d.params ms) v) (macro_bare p n)
        ∙ body_formula_same (expansions_of other n) (macro_of p n).body (give_all (macro_of p n).params ms) v
        ∙ ap (λ (x : Expansions). body_formula x p (macro_of p n).body (give_all (macro_of p n).params ms) v) (expansions_same n)) i
        else (expansions_same n i).truth_of k ms v;
  }

  expanded_same : (f : FormulaTree) → expanded other (bare_formula f) ≡ expanded p f
  expanded_same f = ap (λ (n : ℕ). formula_expanded (expansions_of other n) other (bare_formula f) [] 0) (length-map p.macros bare_macro)
      ∙ formula_same (expansions_of other (length p.macros)) f [] 0 ∙ ap (λ (x : Expansions). formula_expanded x p f [] 0) (expansions_same (length p.macros))

  pub demand_same : (d : DemandData) → demand_expanded other (bare_demand d) ≡ demand_expanded p d
  demand_same written.apart = refl
  demand_same (written.within ranges) = refl
  demand_same (written.plain f) = λ i. rules.plain (expanded_same f i)
