-- One step of the loops of the evaluation.
use Rattle.std.proofs.Common.{◌≡◌, ◌<◌, ◌+◌, ◌&&◌, ◌||◌, ℕ, Bool, true, false, List, drop, length, get_or, ℤ, ◌+ℤ◌, sym, ap, ◌∙◌, subst}
use Rattle.std.proofs.Math.IntN.{+ℤ_assoc}
use Rattle.std.proofs.lemmas.List.{drop_more}
use Rattle.problem_data.specs.Problem.{ProblemData}
use Rattle.problem_data.specs.Tuple.{Tuple}
use Rattle.rule_expand.specs.declared.plain.PlainFormula.{PlainFormula}
use Rattle.rule_expand.specs.declared.plain.PlainProd.{PlainProd}
use Rattle.rule_expand.specs.declared.plain.PlainSum.{PlainSum}
use Rattle.rule_expand.specs.Plain.{PlainFormulas, PlainProducts, PlainSums, a_formula, a_product, a_sum}
use Rattle.rule_expand.specs.PlainTruth.{PlainEnv, plain_all, plain_holds, plain_product, plain_some, plain_sum, plain_sums}
use Rattle.rule_expand.specs.PlainView.{plain_formula_view, plain_formulas_view, plain_product_view, plain_products_view, plain_sum_view, plain_sums_view}
use Rattle.geo_meaning.proofs.Left.{AllLeft, ProductsLeft, SomeLeft, SumsLeft}

-- what is left, with its first step
pub sums-next : (p : ProblemData) (t : Tuple) (env : PlainEnv) (steps : List PlainSum) (i : ℕ) (s : PlainSum) (z total : ℤ) → i < length steps → s ≡ get_or steps i s →
    SumsLeft p t env (plain_sums_view (drop i steps)) z total → SumsLeft p t env (a_sum (plain_sum_view s) (plain_sums_view (drop (i + 1) steps))) z total
sums-next p t env steps i s z total h e k =
    subst (λ (l : PlainSums). SumsLeft p t env l z total) (ap plain_sums_view (drop_more steps i s h) ∙ ap (λ y. a_sum (plain_sum_view y) (plain_sums_view (drop (i + 1) steps))) (sym e)) k

pub sums-step : (p : ProblemData) (t : Tuple) (env : PlainEnv) (steps : List PlainSum) (i : ℕ) (s : PlainSum) (z z' total : ℤ) → i < length steps → s ≡ get_or steps i s →
    SumsLeft p t env (plain_sums_view (drop i steps)) z total → z' ≡ z +ℤ plain_sum p t (plain_sum_view s) env → SumsLeft p t env (plain_sums_view (drop (i + 1) steps)) z' total
sums-step p t env steps i s z z' total h e k is =
    let n = sums-next p t env steps i s z total h e k in
    subst (λ (y : ℤ). SumsLeft p t env (plain_sums_view (drop (i + 1) steps)) y total) (sym is)
    (record {
      tame = n.tame.2;
      rest = +ℤ_assoc z (plain_sum p t (plain_sum_view s) env) (plain_sums p t (plain_sums_view (drop (i + 1) steps)) env) ∙ n.rest;
    })

pub products-next : (p : ProblemData) (t : Tuple) (env : PlainEnv) (steps : List PlainProd) (i : ℕ) (s : PlainProd) (z total : ℤ) → i < length steps → s ≡ get_or steps i s →
    ProductsLeft p t env (plain_products_view (drop i steps)) z total → ProductsLeft p t env (a_product (plain_product_view s) (plain_products_view (drop (i + 1) steps))) z total
products-next p t env steps i s z total h e k =
    subst (λ (l : PlainProducts). ProductsLeft p t env l z total) (ap plain_products_view (drop_more steps i s h) ∙ ap (λ y. a_product (plain_product_view y) (plain_products_view (drop (i + 1) steps))) (sym e)) k

pub products-step : (p : ProblemData) (t : Tuple) (env : PlainEnv) (steps : List PlainProd) (i : ℕ) (s : PlainProd) (z z' total : ℤ) → i < length steps → s ≡ get_or steps i s →
    ProductsLeft p t env (plain_products_view (drop i steps)) z total → z' ≡ plain_product p t z (plain_product_view s) env → ProductsLeft p t env (plain_products_view (drop (i + 1) steps)) z' total
products-step p t env steps i s z z' total h e k is =
    let n = products-next p t env steps i s z total h e k in
    subst (λ (y : ℤ). ProductsLeft p t env (plain_products_view (drop (i + 1) steps)) y total) (sym is) (record { tame = n.tame.2; rest = n.rest })

formulas-next : (fs : List PlainFormula) (i : ℕ) (f : PlainFormula) → i < length fs → f ≡ get_or fs i f → plain_formulas_view (drop i fs) ≡ a_formula (plain_formula_view f) (plain_formulas_view (drop (i + 1) fs))
formulas-next fs i f h e = ap plain_formulas_view (drop_more fs i f h) ∙ ap (λ y. a_formula (plain_formula_view y) (plain_formulas_view (drop (i + 1) fs))) (sym e)

pub all-step : (p : ProblemData) (t : Tuple) (env : PlainEnv) (fs : List PlainFormula) (i : ℕ) (f : PlainFormula) (total : Bool) → i < length fs → f ≡ get_or fs i f →
    AllLeft p t env (plain_formulas_view (drop i fs)) total → plain_holds p t (plain_formula_view f) env ≡ true → AllLeft p t env (plain_formulas_view (drop (i + 1) fs)) total
all-step p t env fs i f total h e k is =
    let n = subst (λ (l : PlainFormulas). AllLeft p t env l total) (formulas-next fs i f h e) k in
    record { calm = n.calm.1 is; rest = sym (ap (λ b. b && plain_all p t (plain_formulas_view (drop (i + 1) fs)) env) is) ∙ n.rest }

pub some-step : (p : ProblemData) (t : Tuple) (env : PlainEnv) (fs : List PlainFormula) (i : ℕ) (f : PlainFormula) (total : Bool) → i < length fs → f ≡ get_or fs i f →
    SomeLeft p t env (plain_formulas_view (drop i fs)) total → plain_holds p t (plain_formula_view f) env ≡ false → SomeLeft p t env (plain_formulas_view (drop (i + 1) fs)) total
some-step p t env fs i f total h e k is =
    let n = subst (λ (l : PlainFormulas). SomeLeft p t env l total) (formulas-next fs i f h e) k in
    record { calm = n.calm.1 is; rest = sym (ap (λ b. b || plain_some p t (plain_formulas_view (drop (i + 1) fs)) env) is) ∙ n.rest }
