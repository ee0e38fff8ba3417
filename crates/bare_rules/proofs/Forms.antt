-- The forms of expressions are the same where the problem has other macros and rules, and so are
-- the conditions of comparisons.
use Rattle.std.proofs.Common.{◌≡◌, ℕ, ◌&&◌, List, negsuc, refl, ap, ◌∙◌}
use Rattle.std.specs.Int.{int_min, int_max}
use Rattle.std.specs.List.{list_all}
use Rattle.rule_syntax.specs.declared.tree.Rel.{Rel}
use Rattle.geo_tokens.specs.declared.fault.FaultWord.TheVariants.{Overflow}
use Rattle.geo_conditions.specs.Form.{Sum}
use Rattle.problem_data.specs.Problem.{MacroData, RuleData, ProblemData}
use Rattle.problem_data.specs.Value.{Thing, Number, Object, Part}
use Rattle.rule_expand.specs.Plain.{PlainExprTree, number, field, shape_number, negative, sum, product, least, greatest, PlainSumTree, plus, minus, PlainSums, no_sums, a_sum, PlainProductTree, times, over, modulo, PlainProducts, no_products, a_product}
use Rattle.rule_expand.specs.PlainTruth.{PlainEnv, subject_in}
use Rattle.linear_conditions.specs.CondTree.{CondTree}
use Rattle.linear_conditions.specs.Fixings.{Fixing}
use Rattle.linear_conditions.specs.Sums.{add_sums, scale, constant_sum, fits_sum, times_sum}
use Rattle.linear_conditions.specs.Forms.{field_sum, sum_of_expr, sum_step, sums_added, product_step, products_taken, fits_expr, sum_fits, sums_fit, product_fits, products_fit}
use Rattle.linear_conditions.specs.Leaves.{difference, leaves_of, leaf_fits}
use Rattle.linear_conditions.specs.Counts.{Counts, allowed}
use Rattle.linear_conditions.specs.Compare.{ground_leaves, ground_compare}

module _ (p : ProblemData) (ms : List MacroData) (rs : List RuleData) (env : PlainEnv) (fix : List Fixing) where
  abbrev pub other : ProblemData
  other = record p { macros = ms; rules = rs }

  field_same : (n : List ℕ) (x : Thing) → field_sum other fix n x ≡ field_sum p fix n x
  field_same n (Number z) = refl
  field_same n (Object o) = refl
  field_same n (Part b) = refl

  mutual
    sum_same : (e : PlainExprTree) → sum_of_expr other e env fix ≡ sum_of_expr p e env fix
    sum_same (number n) = refl
    sum_same (field s f) = field_same f (subject_in s env)
    sum_same (shape_number s) = refl
    sum_same (negative e) = λ i. scale (negsuc 0) (sum_same e i)
    sum_same (sum e steps) = added_same (sum_of_expr other e env fix) steps ∙ ap (λ (f : Sum). sums_added p f steps env fix) (sum_same e)
    sum_same (product e steps) = taken_same (sum_of_expr other e env fix) steps ∙ ap (λ (f : Sum). products_taken p f steps env fix) (sum_same e)
    sum_same (least a b) = λ i. constant_sum (int_min (sum_same a i).constant (sum_same b i).constant)
    sum_same (greatest a b) = λ i. constant_sum (int_max (sum_same a i).constant (sum_same b i).constant)

    step_same : (s : PlainSumTree) → sum_step other s env fix ≡ sum_step p s env fix
    step_same (plus e) = sum_same e
    step_same (minus e) = λ i. scale (negsuc 0) (sum_same e i)

    added_same : (f : Sum) (steps : PlainSums) → sums_added other f steps env fix ≡ sums_added p f steps env fix
    added_same f no_sums = refl
    added_same f (a_sum s rest) = added_same (add_sums f (sum_step other s env fix)) rest ∙ ap (λ (g : Sum). sums_added p (add_sums f g) rest env fix) (step_same s)

    taken_step_same : (f : Sum) (s : PlainProductTree) → product_step other f s env fix ≡ product_step p f s env fix
    taken_step_same f (times e) = λ i. times_sum f (sum_same e i)
    taken_step_same f (over n) = refl
    taken_step_same f (modulo n) = refl

    taken_same : (f : Sum) (steps : PlainProducts) → products_taken other f steps env fix ≡ products_taken p f steps env fix
    taken_same f no_products = refl
    taken_same f (a_product s rest) = taken_same (product_step other f s env fix) rest ∙ ap (λ (g : Sum). products_taken p g rest env fix) (taken_step_same f s)

  mutual
    fits_same : (e : PlainExprTree) → fits_expr other e env fix ≡ fits_expr p e env fix
    fits_same (number n) = refl
    fits_same (field s f) = λ i. fits_sum (sum_same (field s f) i)
    fits_same (shape_number s) = refl
    fits_same (negative e) = λ i. fits_same e i && fits_sum (sum_same (negative e) i)
    fits_same (sum e steps) = λ i. fits_same e i && (sums_fit_same steps i && fits_sum (sum_same (sum e steps) i))
    fits_same (product e steps) = λ i. fits_same e i && (products_fit_same (sum_of_expr other e env fix) steps ∙ ap (λ (f : Sum). products_fit p f steps env fix) (sum_same e)) i
    fits_same (least a b) = λ i. fits_same a i && (fits_same b i && fits_sum (sum_same (least a b) i))
    fits_same (greatest a b) = λ i. fits_same a i && (fits_same b i && fits_sum (sum_same (greatest a b) i))

    sum_fits_same : (s : PlainSumTree) → sum_fits other s env fix ≡ sum_fits p s env fix
    sum_fits_same (plus e) = fits_same e
    sum_fits_same (minus e) = fits_same e

    sums_fit_same : (steps : PlainSums) → sums_fit other steps env fix ≡ sums_fit p steps env fix
    sums_fit_same no_sums = refl
    sums_fit_same (a_sum s rest) = λ i. sum_fits_same s i && sums_fit_same rest i

    product_fits_same : (s : PlainProductTree) → product_fits other s env fix ≡ product_fits p s env fix
    product_fits_same (times e) = fits_same e
    product_fits_same (over n) = refl
    product_fits_same (modulo n) = refl

    products_fit_same : (f : Sum) (steps : PlainProducts) → products_fit other f steps env fix ≡ products_fit p f steps env fix
    products_fit_same f no_products = refl
    products_fit_same f (a_product s rest) = λ i. product_fits_same s i
        && (fits_sum (taken_step_same f s i)
        && (products_fit_same (product_step other f s env fix) rest ∙ ap (λ (g : Sum). products_fit p g rest env fix) (taken_step_same f s)) i)

  pub compare_same : (a : PlainExprTree) (rel : Rel) (b : PlainExprTree) (k : Counts) → ground_compare other a rel b env fix k ≡ ground_compare p a rel b env fix k
  compare_same a rel b k = λ i.
      let f : Sum = difference (sum_same a i) (sum_same b i) in
      allowed CondTree
      (fits_same a i && (fits_same b i && (fits_sum f && list_all leaf_fits (leaves_of rel f).forms)))
      Overflow
      (ground_leaves (leaves_of rel f) k)
